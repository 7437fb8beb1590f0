use Rattle.std.proofs.Common.{◌≡◌, drop}
use Rattle.cq_theory.specs.Paths.{is_among}
use Rattle.cq_colimit.specs.Clashes.{least_giver}
use Rattle.cq_colimit.proofs.clashes.least_among.Given as goal

abbrev pub invariant-loop-name : goal.invariant-loop-name
invariant-loop-name l = (least_giver (λ g. is_among l.table g.0) l.least (drop l.name-index l.given) ≡ least_giver (λ g. is_among l.table g.0) l.fn.least l.given)

use Rattle.std.proofs.Common.{◌≡◌, drop}
use Rattle.cq_colimit.specs.Faults.{is_long}
use Rattle.cq_colimit.specs.Clashes.{least_giver}
use Rattle.cq_colimit.proofs.clashes.least_long.Given as goal

abbrev pub invariant-loop-name : goal.invariant-loop-name
invariant-loop-name l = (least_giver is_long l.least (drop l.name-index l.given) ≡ least_giver is_long l.fn.least l.given)

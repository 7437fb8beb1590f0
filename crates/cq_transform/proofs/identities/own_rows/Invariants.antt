use Rattle.std.proofs.Common.{◌≡◌, take, map}
use Rattle.cq_theory.specs.Canonical.{below}
use Rattle.cq_transform.proofs.identities.own_rows.Given as goal

abbrev pub invariant-loop-count : goal.invariant-loop-count
invariant-loop-count l = l.rows.items ≡ map below (take l.count-index l.counts)

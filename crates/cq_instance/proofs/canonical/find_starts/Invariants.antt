use Rattle.std.proofs.Common.{◌≡◌, map}
use Rattle.cq_theory.specs.Canonical.{below}
use Rattle.cq_instance.specs.Numbers.{start_of}
use Rattle.cq_instance.proofs.canonical.find_starts.Given as goal

abbrev pub invariant-loop-entity : goal.invariant-loop-entity
invariant-loop-entity l = (l.starts.items ≡ map (start_of l.counts) (below l.entity)) × (l.total ≡ start_of l.counts l.entity)

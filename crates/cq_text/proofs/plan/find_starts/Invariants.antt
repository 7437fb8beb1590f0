use Rattle.std.proofs.Common.{◌≡◌, map}
use Rattle.cq_theory.specs.Canonical.{below}
use Rattle.cq_instance.specs.Numbers.{start_of}
use Rattle.cq_text.proofs.plan.find_starts.Given as goal

abbrev pub invariant-loop-count : goal.invariant-loop-count
invariant-loop-count l = (l.starts.items ≡ map (start_of l.counts) (below l.count-index)) × (l.next ≡ start_of l.counts l.count-index)

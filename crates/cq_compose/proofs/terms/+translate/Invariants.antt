use Rattle.std.proofs.Common.{◌≡◌, map, take}
use Rattle.cq_compose.specs.Composite.{translated}
use Rattle.cq_compose.proofs.terms.+translate.Given as goal

abbrev pub decreases-translate : goal.decreases-translate
decreases-translate l = goal.size-translate l

abbrev pub invariant-loop-arg : goal.invariant-loop-arg
invariant-loop-arg l = l.made.items ≡ map (translated l.frame.first.now l.frame.second.now l.frame.entity) (take l.arg-index l.arg-items)

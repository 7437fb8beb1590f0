use Rattle.std.proofs.Common.{◌≡◌, map, take}
use Rattle.cq_compose.specs.Composite.{translated}
use Rattle.cq_compose.proofs.composite.build_attributes.Given as goal

abbrev pub invariant-loop-term : goal.invariant-loop-term
invariant-loop-term l = l.made.items ≡ map (translated l.frame.first.now l.frame.second.now l.frame.entity) (take l.term-index l.terms)

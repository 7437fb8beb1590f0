use Rattle.std.proofs.Common.{◌≡◌, ◌+◌, take}
use Rattle.cq_compose.specs.Composite.{numbered}
use Rattle.cq_compose.proofs.numbered.number_entities.Given as goal

abbrev pub invariant-loop-entity : goal.invariant-loop-entity
invariant-loop-entity l = (l.number ≡ 1 + l.entity-index) × (l.made.items ≡ numbered (take l.entity-index l.entities))

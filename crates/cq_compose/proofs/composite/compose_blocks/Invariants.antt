use Rattle.std.proofs.Common.{◌≡◌, take}
use Rattle.cq_compose.specs.Composite.{composite}
use Rattle.cq_compose.proofs.composite.compose_blocks.Given as goal

abbrev pub invariant-loop-entity : goal.invariant-loop-entity
invariant-loop-entity l = l.made.items ≡ take l.entity (composite l.pair.first.now l.pair.second.now).blocks

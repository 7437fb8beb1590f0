use Rattle.std.proofs.Common.{◌≡◌, drop}
use Rattle.std.specs.List.{list_any}
use Rattle.cq_compose.specs.Composite.{composite, is_large_block}
use Rattle.cq_compose.proofs.composite.is_large.Given as goal

abbrev pub invariant-loop-entity : goal.invariant-loop-entity
invariant-loop-entity l = list_any is_large_block (drop l.entity (composite l.pair.first.now l.pair.second.now).blocks) ≡ list_any is_large_block (composite l.pair.first.now l.pair.second.now).blocks

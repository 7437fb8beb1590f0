use Rattle.std.proofs.Common.{◌≡◌, ◌++◌, take}
use Rattle.std.specs.List.{flat_map}
use Rattle.cq_parts.specs.Parts.{clause_places}
use Rattle.cq_parts.proofs.block_places.push_clauses.Given as goal

abbrev pub invariant-loop-block : goal.invariant-loop-block
invariant-loop-block l = l.places.items ≡ l.initial.places.items ++ flat_map clause_places (take l.block-index l.blocks)

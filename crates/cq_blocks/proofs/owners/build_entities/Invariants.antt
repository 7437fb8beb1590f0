use Rattle.std.proofs.Common.{◌≡◌, take, map}
use Rattle.cq_blocks.specs.Blocks.{entity_named}
use Rattle.cq_blocks.proofs.owners.build_entities.Given as goal

abbrev pub invariant-loop-name : goal.invariant-loop-name
invariant-loop-name l = l.entities.items ≡ map (entity_named l.target) (take l.name-index l.names)

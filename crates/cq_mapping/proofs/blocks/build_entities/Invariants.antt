use Rattle.std.proofs.Common.{◌≡◌, take, map}
use Rattle.cq_mapping.specs.MappingParts.{made_entity}
use Rattle.cq_mapping.proofs.blocks.build_entities.Given as goal

abbrev pub invariant-loop-name : goal.invariant-loop-name
invariant-loop-name l = l.images.items ≡ map (made_entity l.target l.given l.parts) (take l.name-index l.source.entities)

use Rattle.std.proofs.Common.{◌≡◌, take, map}
use Rattle.cq_mapping.specs.MappingParts.{made_attribute}
use Rattle.cq_mapping.proofs.arrows.build_attributes.Given as goal

abbrev pub invariant-loop-edge : goal.invariant-loop-edge
invariant-loop-edge l = l.attributes.items ≡ map (made_attribute l.target l.entities l.given l.parts) (take l.edge-index l.source.attributes)

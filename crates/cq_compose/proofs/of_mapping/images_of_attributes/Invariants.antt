use Rattle.std.proofs.Common.{◌≡◌, map, take}
use Rattle.cq_mapping.specs.Images.{attribute_image}
use Rattle.cq_compose.proofs.of_mapping.images_of_attributes.Given as goal

abbrev pub invariant-loop-attribute : goal.invariant-loop-attribute
invariant-loop-attribute l = l.made.items ≡ map (attribute_image l.mapping) (take l.attribute-index l.attributes)

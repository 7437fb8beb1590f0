use Rattle.std.proofs.Common.{◌≡◌, map}
use Rattle.std.specs.List.{range_with_len}
use Rattle.cq_mapping.specs.Mapping.{attribute_itself}
use Rattle.cq_colimit.proofs.inclusions.single_attributes.Given as goal

abbrev pub invariant-loop-attribute : goal.invariant-loop-attribute
invariant-loop-attribute l = l.made.items ≡ map attribute_itself (range_with_len l.first l.attribute)

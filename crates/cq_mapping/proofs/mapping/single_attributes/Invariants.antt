use Rattle.std.proofs.Common.{◌≡◌, map}
use Rattle.cq_theory.specs.Canonical.{below}
use Rattle.cq_mapping.specs.Mapping.{attribute_itself}
use Rattle.cq_mapping.proofs.mapping.single_attributes.Given as goal

abbrev pub invariant-loop-attribute : goal.invariant-loop-attribute
invariant-loop-attribute l = l.made.items ≡ map attribute_itself (below l.attribute)

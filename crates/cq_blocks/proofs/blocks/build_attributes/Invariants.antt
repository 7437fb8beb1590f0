use Rattle.std.proofs.Common.{◌≡◌, map, take}
use Rattle.cq_blocks.specs.Blocks.{attribute_made}
use Rattle.cq_blocks.proofs.blocks.build_attributes.Given as goal

abbrev pub invariant-loop-attribute : goal.invariant-loop-attribute
invariant-loop-attribute l = l.made.items ≡ map (attribute_made l.making.source.now l.making.target.now l.making.scopes.now l.making.clauses.now) (take l.attribute-index l.attributes)

use Rattle.std.proofs.Common.{◌≡◌, drop}
use Rattle.cq_blocks.specs.Blocks.{missing_attributes}
use Rattle.cq_blocks.proofs.missing.check_attributes.Given as goal

abbrev pub invariant-loop-attribute : goal.invariant-loop-attribute
invariant-loop-attribute l = missing_attributes l.target l.clauses (drop l.attribute-index l.attributes) ≡ missing_attributes l.target l.clauses l.attributes

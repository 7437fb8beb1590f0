use Rattle.std.proofs.Common.{◌≡◌, ◌++◌, take}
use Rattle.std.specs.List.{flat_map}
use Rattle.cq_text.specs.Transcript.{attribute_text}
use Rattle.cq_text.proofs.rows.push_attributes.Given as goal

abbrev pub invariant-loop-attribute : goal.invariant-loop-attribute
invariant-loop-attribute l = l.text.items ≡ l.initial.text.items ++ flat_map (attribute_text l.instance l.row) (take l.attribute-index l.attributes)

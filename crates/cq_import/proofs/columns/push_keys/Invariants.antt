use Rattle.std.proofs.Common.{take}
use Rattle.cq_import.specs.Columns.{IsGrouped, attribute_columns, key_of}
use Rattle.cq_import.proofs.columns.push_keys.Given as goal

abbrev pub invariant-loop-number : goal.invariant-loop-number
invariant-loop-number l = IsGrouped (attribute_columns l.attributes) key_of (take l.number l.edges) l.count l.lists.items

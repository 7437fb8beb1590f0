-- The rows at which a value stands in a column, and groups of rows by the numbers of values.
use Rattle.std.specs.Prelude.{ℕ, List, [], ◌∷◌, ◌+◌, ◌%◌, if◌then◌else◌, length, slice_index_or}
use Rattle.cq_base.specs.declared.hashing.Hashing.{Hashing}
use Rattle.cq_theory.specs.declared.value.Value.{Value}
use Rattle.cq_instance.specs.Digests.{digest_of}
use Rattle.cq_instance.specs.SameValue.{same_value}
use Rattle.cq_instance.specs.declared.cell_index.ValueRows.{ValueRows}

-- the rows at which a value stands, where the first cell is that of the row s
abbrev pub rows_from : ℕ → List Value → Value → List ℕ
rows_from s [] v = []
rows_from s (cell ∷ cells) v = if same_value cell v then s ∷ rows_from (s + 1) cells v else rows_from (s + 1) cells v

-- the rows at which a value stands in a column, ascending
abbrev pub rows_with : List Value → Value → List ℕ
rows_with column v = rows_from 0 column v

-- the rows of the group of a value
abbrev pub group_rows : List ValueRows → Value → List ℕ
group_rows [] v = []
group_rows (group ∷ groups) v = if same_value group.value v then group.rows.items else group_rows groups v

-- the rows of a value among the groups with its number
abbrev pub indexed_rows : Hashing × List (List ValueRows) → Value → List ℕ
indexed_rows index v = group_rows (slice_index_or index.1 (digest_of index.0 v % length index.1) []) v

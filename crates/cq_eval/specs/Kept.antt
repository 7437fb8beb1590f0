-- Indexes that a run keeps.
use Rattle.std.specs.Prelude.{ℕ, [], ◌∷◌, ◌≡◌, All, map, slice_index_or}
use Rattle.std.specs.declared.option.Option.{Option}
use Rattle.std.specs.Prelude.{Some, None}
use Rattle.cq_theory.specs.Canonical.{below}
use Rattle.cq_theory.specs.Tables.{Tables, row_from}
use Rattle.cq_theory.specs.declared.value.Value.{Value}
use Rattle.cq_instance.specs.CellRows.{rows_with, indexed_rows}
use Rattle.cq_theory.specs.Groups.{positions}
use Rattle.cq_eval.specs.declared.kept.Kept.{Kept}
use Rattle.cq_eval.specs.declared.kept.OfCells.{OfCells}
use Rattle.cq_eval.specs.declared.kept.OfKeys.{OfKeys}

-- a kept index lists for each value the rows at which it stands among the attribute's cells
abbrev pub IsOfCells : Tables → Option OfCells → Type 0
IsOfCells M None = Unit {0}
IsOfCells M (Some kept) = (v : Value)
    → indexed_rows kept.index.value v ≡ rows_with (slice_index_or M.sheet.cells kept.attribute []) v

-- a kept index lists for each row the rows, among the first so many, from which the key leads to it
abbrev pub IsOfKeys : Tables → Option OfKeys → Type 0
IsOfKeys M None = Unit {0}
IsOfKeys M (Some kept) =
    (row : ℕ) → slice_index_or kept.index.value row []
    ≡ positions (map (λ start. row_from M start (kept.key ∷ [])) (below kept.count)) row

pub record AreKept (M : Tables) (kept : Kept) : Type 0 where
  pub cells : All (IsOfCells M) kept.cells.items
  pub keys : All (IsOfKeys M) kept.keys.items

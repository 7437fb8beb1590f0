-- Lists of rows from which the rows for a new variable are taken.
use Rattle.std.specs.Prelude.{ℕ, Bool, true, false, List, [], ◌∷◌, ◌++◌, ◌≡◌, ◌<◌, ◌≤◌, ◌⊎◌, Option, Some, All, map}
use Rattle.std.specs.Prelude.{filter, length}
use Rattle.std.specs.Prelude.{slice_get, slice_index, slice_index_or}
use Rattle.cq_theory.specs.declared.presentation.Equation.{Equation}
use Rattle.cq_theory.specs.declared.presentation.Equation.TheVariants.{Ent, Typ}
use Rattle.cq_theory.specs.declared.term.EntTerm.{EntTerm}
use Rattle.cq_theory.specs.declared.term.TypeTerm.{TypeTerm}
use Rattle.cq_theory.specs.declared.term.TypeTerm.TheVariants.{Att, Const}
use Rattle.cq_theory.specs.declared.constant.Con.TheVariants.{Named}
use Rattle.cq_theory.specs.Canonical.{below}
use Rattle.cq_theory.specs.Tables.{Tables, AtRow, row_of, row_from, value_of}
use Rattle.cq_theory.specs.declared.value.Value.{Value}
use Rattle.cq_instance.specs.CellRows.{rows_with, indexed_rows}
use Rattle.cq_theory.specs.Groups.{positions}
use Rattle.cq_eval.specs.Testing.{reach_of_entity, reach_of, holds_at, stage}
use Rattle.cq_eval.specs.Join.{passes}
use Rattle.cq_eval.specs.declared.index.Lists.{Lists}
use Rattle.cq_eval.specs.declared.index.Lists.TheVariants.{Cells, Keys}
use Rattle.cq_eval.specs.declared.index.TestIndex.{TestIndex}

-- the rows that are listed for a value
abbrev pub rows_of_value : Lists → Value → List ℕ
rows_of_value (Cells index) v = indexed_rows index.value v
rows_of_value (Keys index) v = []

-- the rows that are listed for a row
abbrev pub rows_of_row : Lists → ℕ → List ℕ
rows_of_row (Cells index) row = []
rows_of_row (Keys index) row = slice_index_or index.value row []

-- the equation of two sides, or of these turned round
abbrev pub sides : Bool → TypeTerm → TypeTerm → Equation
sides false t u = Typ t u
sides true t u = Typ u t

-- the side to which the index joins
abbrev pub other_side : Bool → Equation → TypeTerm
other_side false (Typ t u) = u
other_side true (Typ t u) = t
other_side turned (Ent t u) = Const (Named 0)

abbrev pub other_entity : Bool → Equation → EntTerm
other_entity false (Ent t u) = u
other_entity true (Ent t u) = t
other_entity turned (Typ t u) = record { generator = 0; path = [] }

-- the rows that are listed for the other side
abbrev pub listed_rows : Tables → List ℕ → Equation → TestIndex → List ℕ
listed_rows M choice (Typ t u) index = rows_of_value index.lists
    (value_of M (map AtRow choice) (other_side index.turned (Typ t u)))
listed_rows M choice (Ent t u) index = rows_of_row index.lists
    (row_of M (map AtRow choice) (other_entity index.turned (Ent t u)))

-- the side is this attribute of this variable, the other side needs only variables before it, and the attribute has as
-- many cells as there are rows for the variable
pub record IsAttributeSide (M : Tables) (counts : List ℕ) (side other : TypeTerm) (found : ℕ × ℕ) : Type 0 where
  pub term : EntTerm
  pub side_is : side ≡ Att found.1 term
  pub variable : term.generator ≡ found.0
  pub alone : term.path ≡ []
  pub within : found.0 < length counts
  pub before : reach_of other ≤ found.0
  pub column : length (slice_index_or M.sheet.cells found.1 []) ≡ slice_index counts found.0

-- the where equation joins a variable by one attribute to a term over variables before it, and for each value the rows
-- are listed at which it stands among the attribute's cells, of which there are as many as rows for the variable
pub record IsCellIndex (M : Tables) (counts : List ℕ) (e : Equation) (index : TestIndex) : Type 0 where
  pub attribute : ℕ
  pub term : EntTerm
  pub other : TypeTerm
  pub equation : e ≡ sides index.turned (Att attribute term) other
  pub variable : term.generator ≡ index.variable
  pub alone : term.path ≡ []
  pub within : index.variable < length counts
  pub before : reach_of other ≤ index.variable
  pub column : length (slice_index_or M.sheet.cells attribute []) ≡ slice_index counts index.variable
  pub lists : (v : Value) → rows_of_value index.lists v ≡ rows_with (slice_index_or M.sheet.cells attribute []) v

abbrev pub entity_sides : Bool → EntTerm → EntTerm → Equation
entity_sides false t u = Ent t u
entity_sides true t u = Ent u t

-- the where equation joins a path from a variable to a term over variables before it, and for each row the rows are
-- listed from which the path leads to it
pub record IsPathIndex (M : Tables) (counts : List ℕ) (e : Equation) (index : TestIndex) : Type 0 where
  pub term : EntTerm
  pub other : EntTerm
  pub equation : e ≡ entity_sides index.turned term other
  pub variable : term.generator ≡ index.variable
  pub within : index.variable < length counts
  pub before : reach_of_entity other ≤ index.variable
  pub lists : (row : ℕ) → rows_of_row index.lists row
      ≡ positions (map (λ start. row_from M start term.path) (below (slice_index counts index.variable))) row

abbrev pub IsIndex : Tables → List ℕ → Equation → TestIndex → Type 0
IsIndex M counts e index = IsCellIndex M counts e index ⊎ IsPathIndex M counts e index

-- each index is one of its where equation
abbrev pub AreIndexes : Tables → List ℕ → List Equation → List (Option TestIndex) → Type 0
AreIndexes M counts tests indexes =
    (n : ℕ) (e : Equation) (index : TestIndex) → slice_get tests n ≡ Some e → slice_get indexes n ≡ Some (Some index)
    → IsIndex M counts e index

-- the rows are among those for the next variable, in order, and have all at which the where equations hold that it
-- completes
pub record IsCover (M : Tables) (tests : List Equation) (counts bound : List ℕ) (count : ℕ)
    (rows : List ℕ) : Type 0 where
  pub same : filter (passes (stage (length counts)) (holds_at M) tests) (map (λ row. bound ++ row ∷ []) rows)
      ≡ filter (passes (stage (length counts)) (holds_at M) tests) (map (λ row. bound ++ row ∷ []) (below count))
  pub within : All (λ row. row < count) rows

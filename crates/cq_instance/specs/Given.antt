-- Tables of which an instance is made as they stand.
use Rattle.std.specs.Prelude.{ℕ, Bool, true, List, ◌+◌, ◌<◌, ◌≤◌, ◌||◌, All, sum, map, length, nat_lt}
use Rattle.std.specs.List.{list_any}
use Rattle.cq_theory.specs.declared.term.EntTerm.{EntTerm}
use Rattle.cq_theory.specs.declared.value.Sheet.{Sheet}
use Rattle.cq_theory.specs.declared.value.Algebra.{Algebra}
use Rattle.cq_theory.specs.SchemaData.{SchemaData as Schema}
use Rattle.cq_theory.specs.Value.{symbols_of}
use Rattle.cq_theory.specs.Tables.{Tables, IsWellFormed, Satisfies, count_of}
use Rattle.cq_theory.specs.Canonical.{below, row_term, canonical, canonical_assignment}
use Rattle.cq_theory.specs.Listed.{IsLeastName}
use Rattle.cq_instance.specs.InstanceData.{InstanceData, name_at}

abbrev pub tables : Sheet → Algebra → Tables
tables sheet algebra = record { sheet = sheet; algebra = algebra }

-- The tables are well formed over the schema and satisfy it. A value in a cell has at most 1,024 symbols, and a function at
-- the arguments of an entry too.
pub record IsModel (S : Schema) (M : Tables) : Type 0 where
  pub well_formed : IsWellFormed S M
  pub satisfies : Satisfies S M
  pub cells_fit : All (λ column. All (λ v. symbols_of v ≤ 1024) column) M.sheet.cells
  pub entries_fit : All (λ e. length e.args ≤ 1023) M.algebra.entries

-- how many rows and nulls there are
abbrev pub size_of : Tables → ℕ
size_of M = sum M.sheet.counts + length M.algebra.nulls

-- some value in a cell has over 1,024 symbols
abbrev pub has_long_cell : Tables → Bool
has_long_cell M = list_any (list_any (λ v. nat_lt 1024 (symbols_of v))) M.sheet.cells

-- there are over 16,000,000 rows and nulls together, or a value in a cell is too long
abbrev pub is_oversized : Tables → Bool
is_oversized M = nat_lt 16000000 (size_of M) || has_long_cell M

module _ (S : Schema) (M : Tables) where
  -- each row is named by its own generator
  abbrev pub row_names : ℕ → List EntTerm
  row_names entity = map (row_term S M entity) (below (count_of M entity))

  -- the tables with their canonical presentation
  abbrev pub given : InstanceData
  given = record {
    schema = S;
    presentation = canonical S M;
    names = map row_names (below (length S.entities));
    tables = M;
    assignment = canonical_assignment S M;
    given = true;
  }

-- no lesser term names a row than its name does
abbrev pub HasLeastNames : InstanceData → Type 0
HasLeastNames i = (entity row : ℕ) → row < count_of i.tables entity
    → IsLeastName i.schema i.presentation i.tables i.assignment entity row (name_at i.names entity row)

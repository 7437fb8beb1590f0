-- What contracts see of an instance.
use Rattle.std.specs.Prelude.{ℕ, Bool, true, List, [], ◌≡◌, ◌<◌, ◌≤◌, All, Some, length, slice_get, slice_index_or}
use Rattle.cq_theory.specs.declared.presentation.Presentation.{Presentation}
use Rattle.cq_theory.specs.declared.term.EntTerm.{EntTerm}
use Rattle.cq_theory.specs.SchemaData.{SchemaData}
use Rattle.cq_base.specs.declared.name.Name.{Name}
use Rattle.cq_theory.specs.declared.presentation.Sort.{Sort}
use Rattle.cq_theory.specs.Presentation.{IsPresentation}
use Rattle.cq_theory.specs.Sorts.{entity_of}
use Rattle.cq_theory.specs.Tables.{Tables, Assignment, AtRow, count_of, row_of, IsWellFormed, Satisfies, HasSort}
use Rattle.cq_theory.specs.Canonical.{canonical, canonical_assignment}

-- a schema, the presentation that is modelled, the name of each row by entity, the tables, what each generator stands for, and
-- whether the tables were given, so that the presentation was made of them
pub record InstanceData : Type 0 where
  pub schema : SchemaData
  pub presentation : Presentation
  pub names : List (List EntTerm)
  pub tables : Tables
  pub assignment : Assignment
  pub given : Bool

-- the names of an entity's rows
abbrev pub names_at : List (List EntTerm) → ℕ → List EntTerm
names_at names entity = slice_index_or names entity []

-- the name of a row of an entity
abbrev pub name_at : List (List EntTerm) → ℕ → ℕ → EntTerm
name_at names entity row = slice_index_or (names_at names entity) row (record { generator = 0; path = [] })

-- the generator and the keys of a name exist
abbrev pub IsName : InstanceData → EntTerm → Type 0
IsName i t = (t.generator < length i.presentation.generators) × All (λ k. k < length i.schema.keys) t.path

-- a term of the entity that means the row
pub record IsNameOf (i : InstanceData) (entity row : ℕ) (t : EntTerm) : Type 0 where
  pub of_entity : entity_of i.schema i.presentation.generators t ≡ Some entity
  pub of_row : row_of i.tables i.assignment t ≡ row

-- the presentation is that of the tables, and each of its generators stands for its own row or null
pub record IsCanonical (i : InstanceData) : Type 0 where
  pub presentation : i.presentation ≡ canonical i.schema i.tables
  pub assignment : i.assignment ≡ canonical_assignment i.schema i.tables

-- the presentation is one over the schema, the tables are well formed over the schema and satisfy it, an entry has no more arguments than a
-- term of 1,024 symbols can have, each row has a name over the presentation that means it, each generator stands for something of its sort,
-- and given tables have their canonical presentation
pub record IsInstance (i : InstanceData) : Type 0 where
  pub presented : IsPresentation i.schema i.presentation
  pub well_formed : IsWellFormed i.schema i.tables
  pub satisfies : Satisfies i.schema i.tables
  pub entries_fit : All (λ e. length e.args ≤ 1023) i.tables.algebra.entries
  pub entities : length i.names ≡ length i.schema.entities
  pub counted : (entity : ℕ) → length (names_at i.names entity) ≡ count_of i.tables entity
  pub named : All (λ names. All (IsName i) names) i.names
  pub meant : (entity row : ℕ) → row < count_of i.tables entity → IsNameOf i entity row (name_at i.names entity row)
  pub assigned : length i.assignment ≡ length i.presentation.generators
  pub sorts : (n : ℕ) (g : Name × Sort) → slice_get i.presentation.generators n ≡ Some g
      → HasSort i.schema i.tables g.1 (slice_index_or i.assignment n (AtRow 0))
  pub canonical_where_given : i.given ≡ true → IsCanonical i

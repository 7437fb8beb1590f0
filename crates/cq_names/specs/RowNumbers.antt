-- Rows that are listed in one order, by entity.
use Rattle.std.specs.Prelude.{ℕ, List, [], Some, ◌≡◌, map, slice_get, slice_index, slice_index_or}
use Rattle.cq_tables.specs.Content.{Content}
use Rattle.cq_tables.specs.Content.{entity_of as row_entity}
use Rattle.cq_theory.specs.declared.term.EntTerm.{EntTerm}
use Rattle.cq_theory.specs.Canonical.{below}
use Rattle.cq_theory.specs.Groups.{positions}
use Rattle.cq_names.specs.declared.numbers.NumberedRows.{NumberedRows}

-- the term in a list of names
abbrev pub name_in : List EntTerm → ℕ → EntTerm
name_in names place = slice_index_or names place (record { generator = 0; path = [] })

-- the entity of each row
abbrev pub row_entities : Content → List ℕ → List ℕ
row_entities m rows = map (row_entity m) rows

module _ (members : List ℕ) (entities : ℕ) where
  -- by entity, the rows and the names that stand at the places of its members
  abbrev pub rows_by : List ℕ → List (List ℕ)
  rows_by rows = map (λ e. map (slice_index rows) (positions members e)) (below entities)

  abbrev pub names_by : List EntTerm → List (List EntTerm)
  names_by names = map (λ e. map (name_in names) (positions members e)) (below entities)

-- each row has as its number its place among those of its entity
abbrev pub AreNumbers : List ℕ → List ℕ → List ℕ → Type 0
AreNumbers members rows numbers = (e n place : ℕ) → slice_get (positions members e) n ≡ Some place
    → slice_index numbers (slice_index rows place) ≡ n

pub record AreNumberedAs (m : Content) (entities : ℕ) (rows : List ℕ) (names : List EntTerm) (made : NumberedRows) : Type 0 where
  pub rows_are : made.rows ≡ rows
  pub members_are : made.members ≡ row_entities m rows
  pub groups_are : made.groups ≡ map (positions (row_entities m rows)) (below entities)
  pub order_is : made.order ≡ rows_by (row_entities m rows) entities rows
  pub names_are : made.names ≡ names_by (row_entities m rows) entities names
  pub numbers_are : AreNumbers (row_entities m rows) rows made.numbers

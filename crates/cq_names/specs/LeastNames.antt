-- Rows numbered by entity, in the order of their least names.
use Rattle.std.specs.Prelude.{ℕ, List, [], Some, true, false, ◌≡◌, ◌<◌, length, slice_get, slice_index, slice_index_or}
use Rattle.std.specs.Ordering.{is_gt, is_lt}
use Rattle.cq_tables.specs.Content.{Content, live_of}
use Rattle.cq_tables.specs.Content.{entity_of as row_entity}
use Rattle.cq_rows.specs.Rows.{row_of_term}
use Rattle.cq_theory.specs.declared.presentation.Presentation.{Presentation}
use Rattle.cq_theory.specs.SchemaData.{SchemaData as Schema}
use Rattle.cq_theory.specs.declared.term.EntTerm.{EntTerm}
use Rattle.cq_theory.specs.Sorts.{entity_of}
use Rattle.cq_theory.specs.Listed.{term_cmp}

-- one entity's list of a list by entity
abbrev pub rows_at : List (List ℕ) → ℕ → List ℕ
rows_at order entity = slice_index_or order entity []

abbrev pub terms_at : List (List EntTerm) → ℕ → List EntTerm
terms_at names entity = slice_index_or names entity []

module _ (S : Schema) (P : Presentation) (m : Content) (rows : List ℕ) where
  -- t leads to the row, and no lesser term does
  pub record IsLeast (r : ℕ) (t : EntTerm) : Type 0 where
    pub entity : entity_of S P.generators t ≡ Some (row_entity m r)
    pub row : row_of_term m rows t ≡ Some r
    pub least : (u : EntTerm) (e : ℕ) → entity_of S P.generators u ≡ Some e → row_of_term m rows u ≡ Some r → is_gt (term_cmp t u) ≡ false

  -- `order` has the live rows of each entity, `names` their least names, in the order of these, and `numbers` has, for each
  -- live row, its place among those of its entity
  pub record AreNumbered (order : List (List ℕ)) (names : List (List EntTerm)) (numbers : List ℕ) : Type 0 where
    pub entities : length order ≡ length S.entities
    pub names_entities : length names ≡ length S.entities
    pub counted : (e : ℕ) → length (terms_at names e) ≡ length (rows_at order e)
    pub live : (e n r : ℕ) → slice_get (rows_at order e) n ≡ Some r → (live_of m r ≡ true) × (row_entity m r ≡ e)
    pub numbered : (e n r : ℕ) → slice_get (rows_at order e) n ≡ Some r → slice_index numbers r ≡ n
    pub all : (r : ℕ) → live_of m r ≡ true → slice_get (rows_at order (row_entity m r)) (slice_index numbers r) ≡ Some r
    pub named : (e n r : ℕ) (t : EntTerm) → slice_get (rows_at order e) n ≡ Some r → slice_get (terms_at names e) n ≡ Some t → IsLeast r t
    pub ordered : (e n next : ℕ) (t u : EntTerm) → n < next
        → slice_get (terms_at names e) n ≡ Some t → slice_get (terms_at names e) next ≡ Some u → is_lt (term_cmp t u) ≡ true

-- Equations that are added with the nodes of their sides.
use Rattle.std.specs.Prelude.{ℕ, List, [], ◌∷◌, ◌++◌, Some, ◌≡◌, ◌<◌, ◌==◌, map, filter, slice_index_or}
use Rattle.std.specs.List.{flat_map}
use Rattle.cq_tables.specs.Content.{Content}
use Rattle.cq_rows.specs.Rows.{row_of_term}
use Rattle.cq_model.specs.declared.places.Places.{Places}
use Rattle.cq_model.specs.NodeListData.{NodeListData}
use Rattle.cq_model.specs.NodeTerms.{side_terms}
use Rattle.cq_model.specs.Pushing.{AreReadable, AreEquationsOf, HasMore}
use Rattle.cq_theory.specs.declared.presentation.Presentation.{Presentation}
use Rattle.cq_theory.specs.declared.schema.ObsEq.{ObsEq}
use Rattle.cq_theory.specs.SchemaData.{SchemaData as Schema}
use Rattle.cq_theory.specs.declared.term.EntTerm.{EntTerm}
use Rattle.cq_theory.specs.declared.term.TypeTerm.{TypeTerm}
use Rattle.cq_theory.specs.TypeTerm.{substituted}
use Rattle.cq_theory.specs.Canonical.{below}
use Rattle.cq_theory.specs.Sorts.{entity_of}

-- the sides of some observation equations of an entity at a term in the variable's place
abbrev pub sides_at : ℕ → List ObsEq → EntTerm → List (TypeTerm × TypeTerm)
sides_at entity equations t = map (λ e. (substituted t e.left, substituted t e.right)) (filter (λ e. e.entity == entity) equations)

module _ (S : Schema) (m : Content) (places : Places) where
  abbrev pub IsPresented : Presentation → List ℕ → ℕ → Type 0
  IsPresented P entries count = AreReadable S m places P.generators entries count

  -- these sides are added, whatever there was before
  abbrev pub AddsSides : Presentation → List ℕ → List (TypeTerm × TypeTerm) → NodeListData → NodeListData → Type 0
  AddsSides P entries more old new = (terms : List TypeTerm) (sides : List (TypeTerm × TypeTerm))
      → AreEquationsOf S m places P entries terms sides old
      → HasMore S m places P entries terms (flat_map side_terms more) (sides ++ more) new

  -- a term over the presentation that leads to the row
  pub record IsNameOf (P : Presentation) (entries : List ℕ) (entity row : ℕ) (t : EntTerm) : Type 0 where
    pub sort : entity_of S P.generators t ≡ Some entity
    pub row_is : row_of_term m entries t ≡ Some row

  pub data AreNamesOf (P : Presentation) (entries : List ℕ) (entity : ℕ) : List ℕ → List EntTerm → Type 0 where
    none : AreNamesOf P entries entity [] []
    more : {row : ℕ} {t : EntTerm} {rows : List ℕ} {names : List EntTerm} → IsNameOf P entries entity row t
        → AreNamesOf P entries entity rows names
        → AreNamesOf P entries entity (row ∷ rows) (t ∷ names)

  -- some equations of an entity are added at a row, in the variable's place any term that leads to it
  abbrev pub AddsAtRow : ℕ → List ObsEq → ℕ → NodeListData → NodeListData → Type 0
  AddsAtRow entity equations row old new = (P : Presentation) (entries : List ℕ) (t : EntTerm) → IsNameOf P entries entity row t
      → AddsSides P entries (sides_at entity equations t) old new

  abbrev pub AddsAtRows : ℕ → List ℕ → NodeListData → NodeListData → Type 0
  AddsAtRows entity rows old new = (P : Presentation) (entries : List ℕ) (names : List EntTerm) → AreNamesOf P entries entity rows names
      → AddsSides P entries (flat_map (sides_at entity S.obs_eqs) names) old new

  -- those of the first n entities at their rows
  abbrev pub AddsObservations : List (List ℕ) → ℕ → NodeListData → NodeListData → Type 0
  AddsObservations order n old new = (P : Presentation) (entries : List ℕ) (names : List (List EntTerm))
      → ((e : ℕ) → e < n → AreNamesOf P entries e (slice_index_or order e []) (slice_index_or names e []))
      → AddsSides P entries (flat_map (λ e. flat_map (sides_at e S.obs_eqs) (slice_index_or names e [])) (below n)) old new

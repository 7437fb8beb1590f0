-- Presentations with finitely many entity terms up to derivable equality.
use Rattle.std.specs.Prelude.{ℕ, List, Some, ◌≡◌, slice_get}
use Rattle.cq_theory.specs.declared.presentation.Presentation.{Presentation}
use Rattle.cq_theory.specs.SchemaData.{SchemaData as Schema}
use Rattle.cq_theory.specs.declared.term.EntTerm.{EntTerm}
use Rattle.cq_theory.specs.declared.term.Term.TheVariants.{Ent}
use Rattle.cq_theory.specs.Sorts.{entity_of}
use Rattle.cq_theory.specs.Derivation.{Derives}

module _ (S : Schema) (P : Presentation) where
  -- t derivably equals a member of the list
  abbrev pub EqualsOne : List EntTerm → EntTerm → Type 0
  EqualsOne ts t = (n : ℕ) × (u : EntTerm) × (slice_get ts n ≡ Some u) × Derives S P (Ent t) (Ent u)

  -- some finite list has, for each entity term, a term that derivably equals it
  abbrev pub IsFinite : Type 0
  IsFinite = (ts : List EntTerm) × ((t : EntTerm) (entity : ℕ) → entity_of S P.generators t ≡ Some entity → EqualsOne ts t)

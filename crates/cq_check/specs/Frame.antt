-- Rows that were made for a presentation, whether or not all cells are filled.
use Rattle.std.specs.Prelude.{ℕ, List, Option, Some, ◌≡◌, map, length, IsSome}
use Rattle.cq_tables.specs.Content.{Content, IsWhole, keys_of, entities_of}
use Rattle.cq_rows.specs.Plain.{ends_of}
use Rattle.cq_rows.specs.Rows.{row_of_term}
use Rattle.cq_rows.specs.Saturated.{HasEntries, OneRowIsEqual, AllNamed, PathEquationsHold, EntityEquationsHold}
use Rattle.cq_theory.specs.declared.presentation.Presentation.{Presentation}
use Rattle.cq_theory.specs.SchemaData.{SchemaData as Schema}
use Rattle.cq_theory.specs.declared.term.EntTerm.{EntTerm}
use Rattle.cq_theory.specs.declared.term.Term.{Term}
use Rattle.cq_theory.specs.declared.term.Term.TheVariants.{Ent}
use Rattle.cq_theory.specs.Sorts.{entity_of}
use Rattle.cq_theory.specs.Derivation.{Derivation, Concludes, IsWithin}

-- both terms lead to one row
abbrev pub AreOneRow : Content → List ℕ → EntTerm → EntTerm → Type 0
AreOneRow m rows t u = (r : ℕ) × (row_of_term m rows t ≡ Some r) × (row_of_term m rows u ≡ Some r)

module _ (S : Schema) (P : Presentation) (m : Content) (rows : List ℕ) where
  -- the tables are over the schema, terms of one row are derivably equal, each row is that of some term, and the equations between entity
  -- terms hold where no cell on the way is empty
  pub record IsFrame : Type 0 where
    pub whole : IsWhole m
    pub keys : keys_of m ≡ map ends_of S.keys
    pub entities : entities_of m ≡ length S.entities
    pub entries : HasEntries P m rows
    pub sound : OneRowIsEqual S P m rows
    pub named : (depth : ℕ) × AllNamed S P m rows depth
    pub paths : PathEquationsHold S m
    pub equations : EntityEquationsHold P m rows

  -- each term within the bound leads to a row
  abbrev pub AllTracedWithin : Option ℕ → Type 0
  AllTracedWithin bound = (t : EntTerm) (e : ℕ) → entity_of S P.generators t ≡ Some e → IsWithin bound (Ent t)
      → IsSome (row_of_term m rows t)

  -- no derivation within a bound up to which all terms lead to rows concludes that t equals u
  abbrev pub IsApart : Term → Term → Type 0
  IsApart t u = (bound : Option ℕ) → AllTracedWithin bound → (d : Derivation) → Concludes S P bound d t u → ⊥

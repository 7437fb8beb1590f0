-- Rows of which all cells are filled, and what they say of a presentation.
use Rattle.std.specs.Prelude.{ℕ, List, Some, ◌≡◌, map, length}
use Rattle.cq_tables.specs.Content.{Content, IsWhole, keys_of, entities_of}
use Rattle.cq_rows.specs.Plain.{ends_of}
use Rattle.cq_rows.specs.Rows.{AllFilled, row_of_term}
use Rattle.cq_rows.specs.Saturated.{HasEntries, OneRowIsEqual, AllNamed, PathEquationsHold, EntityEquationsHold}
use Rattle.cq_theory.specs.declared.presentation.Presentation.{Presentation}
use Rattle.cq_theory.specs.SchemaData.{SchemaData as Schema}
use Rattle.cq_theory.specs.declared.term.EntTerm.{EntTerm}

-- the tables are over the schema, each entity term leads to one row, terms of one row are derivably equal, each row is
-- that of some term, and the equations between entity terms hold
pub record AreClosed (S : Schema) (P : Presentation) (m : Content) (rows : List ℕ) : Type 0 where
  pub whole : IsWhole m
  pub keys : keys_of m ≡ map ends_of S.keys
  pub entities : entities_of m ≡ length S.entities
  pub entries : HasEntries P m rows
  pub filled : AllFilled m
  pub sound : OneRowIsEqual S P m rows
  pub named : (depth : ℕ) × AllNamed S P m rows depth
  pub paths : PathEquationsHold S m
  pub equations : EntityEquationsHold P m rows

-- both terms lead to one row
abbrev pub AreOneRow : Content → List ℕ → EntTerm → EntTerm → Type 0
AreOneRow m rows t u = (r : ℕ) × (row_of_term m rows t ≡ Some r) × (row_of_term m rows u ≡ Some r)

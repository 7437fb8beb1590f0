-- Terms that are new at a depth.
use Rattle.std.specs.Prelude.{ℕ, List, Some, None, ◌≡◌, ◌<◌, slice_get}
use Rattle.cq_tables.specs.Content.{Content, keys_of, step_of, cell_of}
use Rattle.cq_tables.specs.Content.{entity_of as row_entity}
use Rattle.cq_rows.specs.Rows.{RowFilled}
use Rattle.cq_theory.specs.declared.presentation.Presentation.{Presentation}
use Rattle.cq_theory.specs.declared.term.EntTerm.{EntTerm}
use Rattle.cq_theory.specs.declared.term.Term.TheVariants.{Ent}
use Rattle.cq_theory.specs.EntTerm.{depth_of}
use Rattle.cq_theory.specs.SchemaData.{SchemaData as Schema}
use Rattle.cq_theory.specs.Sorts.{entity_of}
use Rattle.cq_theory.specs.Closing.{HasKey}
use Rattle.cq_theory.specs.Derivation.{Within}
use Rattle.cq_growth.specs.declared.levels.Member.{Member}

-- a term of depth k whose entity has a key, and that equals no term of lesser depth within k
pub record IsNew (S : Schema) (P : Presentation) (k : ℕ) (t : EntTerm) : Type 0 where
  pub entity : ℕ
  pub sorted : entity_of S P.generators t ≡ Some entity
  pub goes_on : HasKey S P entity
  pub depth : depth_of t ≡ k
  pub new : (u : EntTerm) (e : ℕ) → entity_of S P.generators u ≡ Some e → depth_of u < k → Within S P k (Ent t) (Ent u) → ⊥

-- a key of a row's entity at which the row's cell is empty
pub record IsEmptyAt (m : Content) (row key : ℕ) : Type 0 where
  pub entity : ℕ
  pub goes : step_of (keys_of m) (row_entity m row) key ≡ Some entity
  pub empty : cell_of m row key ≡ None

-- the member's row has an empty cell
pub record IsOpen (m : Content) (members : List Member) (x : Member) : Type 0 where
  pub place : ℕ
  pub there : slice_get members place ≡ Some x
  pub key : ℕ
  pub open_at : IsEmptyAt m x.row key

abbrev pub AreFilled : Content → List Member → Type 0
AreFilled m members = (n : ℕ) (x : Member) → slice_get members n ≡ Some x → RowFilled m x.row

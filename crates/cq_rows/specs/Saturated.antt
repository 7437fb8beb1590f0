-- What tables say of a presentation: the rows of its terms, and which equations hold at them.
use Rattle.std.specs.Prelude.{◌≡◌, ℕ, ◌-◌, ◌^◌, ◌≤◌, true, false, List, length, map, Some, IsSome, MatchBool, slice_get, slice_index}
use Rattle.cq_tables.specs.Content.{Content, IsWhole, keys_of, entities_of, live_of}
use Rattle.cq_tables.specs.Content.{entity_of as row_entity}
use Rattle.cq_theory.specs.declared.presentation.Equation.TheVariants.{Ent as EntEquation}
use Rattle.cq_theory.specs.declared.presentation.Presentation.{Presentation}
use Rattle.cq_theory.specs.declared.schema.PathEq.{PathEq}
use Rattle.cq_theory.specs.SchemaData.{SchemaData as Schema}
use Rattle.cq_theory.specs.declared.term.EntTerm.{EntTerm}
use Rattle.cq_theory.specs.declared.term.Term.TheVariants.{Ent}
use Rattle.cq_theory.specs.EntTerm.{depth_of}
use Rattle.cq_theory.specs.Sorts.{entity_of, entity_at, type_at}
use Rattle.cq_theory.specs.Derivation.{Derives, Within}
use Rattle.cq_theory.specs.Closing.{Closes, IsWide}
use Rattle.cq_rows.specs.Plain.{ends_of}
use Rattle.cq_rows.specs.Rows.{row_of_term, Agree, AllFilled}
use Rattle.cq_rows.specs.declared.grow.Partial.{Partial}

-- each generator has an entry: that of an entity a live row of it, that of a type the number 2^64 - 1
pub record HasEntries (P : Presentation) (m : Content) (rows : List ℕ) : Type 0 where
  pub count : length rows ≡ length P.generators
  pub entity : (g e : ℕ) → entity_at (slice_get P.generators g) ≡ Some e → (live_of m (slice_index rows g) ≡ true)
      × (row_entity m (slice_index rows g) ≡ e)
  pub type : (g t : ℕ) → type_at (slice_get P.generators g) ≡ Some t → slice_index rows g ≡ 2 ^ 64 - 1

-- two terms of one row are derivably equal
abbrev pub OneRowIsEqual : Schema → Presentation → Content → List ℕ → Type 0
OneRowIsEqual S P m rows = (t u : EntTerm) (d e a : ℕ) → entity_of S P.generators t ≡ Some d → entity_of S P.generators u ≡ Some e
    → row_of_term m rows t ≡ Some a → row_of_term m rows u ≡ Some a → Derives S P (Ent t) (Ent u)

-- each term of depth at most k can be traced
abbrev pub AllTraced : Schema → Presentation → Content → List ℕ → ℕ → Type 0
AllTraced S P m rows k = (t : EntTerm) (e : ℕ) → entity_of S P.generators t ≡ Some e → depth_of t ≤ k → IsSome (row_of_term m rows t)

-- terms that are equal within depth k lead to one row
abbrev pub WithinIsOneRow : Schema → Presentation → Content → List ℕ → ℕ → Type 0
WithinIsOneRow S P m rows k = (t u : EntTerm) → Within S P k (Ent t) (Ent u) → row_of_term m rows t ≡ row_of_term m rows u

-- a term of depth at most k that names a row
pub record IsName (S : Schema) (P : Presentation) (m : Content) (rows : List ℕ) (k r : ℕ) (t : EntTerm) : Type 0 where
  pub entity : entity_of S P.generators t ≡ Some (row_entity m r)
  pub depth : depth_of t ≤ k
  pub row : row_of_term m rows t ≡ Some r

-- each live row is named by a term of depth at most k
abbrev pub AllNamed : Schema → Presentation → Content → List ℕ → ℕ → Type 0
AllNamed S P m rows k = (r : ℕ) → live_of m r ≡ true → (t : EntTerm) × IsName S P m rows k r t

-- from each live row of its entity both paths of a path equation lead to one row, where no cell on the way is empty
abbrev pub PathEquationsHold : Schema → Content → Type 0
PathEquationsHold S m = (r n : ℕ) (e : PathEq) → live_of m r ≡ true → slice_get S.path_eqs n ≡ Some e → row_entity m r ≡ e.entity
    → Agree m r e.left r e.right

-- both sides of an equation between entity terms lead to one row, where no cell on the way is empty
abbrev pub EntityEquationsHold : Presentation → Content → List ℕ → Type 0
EntityEquationsHold P m rows = (n : ℕ) (t u : EntTerm) → slice_get P.equations n ≡ Some (EntEquation t u)
    → Agree m (slice_index rows t.generator) t.path (slice_index rows u.generator) u.path

-- no depth up to k closes
abbrev pub NoneCloses : Schema → Presentation → ℕ → Type 0
NoneCloses S P k = (j : ℕ) → j ≤ k → Closes S P j → ⊥

-- the terms are too wide at some depth up to k
abbrev pub SomeWide : Schema → Presentation → ℕ → Type 0
SomeWide S P k = (j : ℕ) × (j ≤ k) × IsWide S P j

-- rows that were made up to some depth: what each clause of `saturate` says of them
pub record IsSaturated (S : Schema) (P : Presentation) (k : ℕ) (p : Partial) : Type 0 where
  pub whole : IsWhole p.tables
  pub keys : keys_of p.tables ≡ map ends_of S.keys
  pub entities : entities_of p.tables ≡ length S.entities
  pub entries : HasEntries P p.tables p.generator_rows
  pub sound : OneRowIsEqual S P p.tables p.generator_rows
  pub traced : AllTraced S P p.tables p.generator_rows k
  pub within : WithinIsOneRow S P p.tables p.generator_rows k
  pub named : AllNamed S P p.tables p.generator_rows k
  pub closed : MatchBool p.closed (AllFilled p.tables) (AllFilled p.tables → ⊥)
  pub rules : PathEquationsHold S p.tables
  pub given : EntityEquationsHold P p.tables p.generator_rows
  pub unclosed : p.closed ≡ false → NoneCloses S P k

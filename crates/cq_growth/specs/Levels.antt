-- Rows by the depth of the terms that reach them.
use Rattle.std.specs.Prelude.{ℕ, Bool, true, List, [], ◌∷◌, ◌++◌, Some, ◌≡◌, ◌<◌, ◌≤◌, ◌⊎◌, length, slice_get}
use Rattle.std.specs.Prelude.{slice_set, slice_index, slice_index_or, false}
use Rattle.cq_tables.specs.Content.{Content, keys_of, made_of, live_of, cell_of}
use Rattle.cq_tables.specs.Content.{entity_of as row_entity}
use Rattle.cq_rows.specs.Rows.{row_of_term}
use Rattle.cq_theory.specs.declared.presentation.Presentation.{Presentation}
use Rattle.cq_theory.specs.declared.term.EntTerm.{EntTerm}
use Rattle.cq_theory.specs.EntTerm.{alone, depth_of, extended}
use Rattle.cq_theory.specs.SchemaData.{SchemaData as Schema}
use Rattle.cq_theory.specs.Sorts.{entity_of, entity_at}
use Rattle.cq_growth.specs.declared.levels.Member.{Member}

-- a term and one key more
abbrev pub one_further : EntTerm → ℕ → EntTerm
one_further t key = extended t (key ∷ [])

abbrev pub IsReached : List Bool → ℕ → Type 0
IsReached reached row = slice_index_or reached row false ≡ true

-- the row is that of a member
abbrev pub IsIn : List Member → ℕ → Type 0
IsIn members row = (n : ℕ) × (x : Member) × (slice_get members n ≡ Some x) × (x.row ≡ row)

abbrev pub AreLive : Content → List Member → Type 0
AreLive m members = (n : ℕ) (x : Member) → slice_get members n ≡ Some x → live_of m x.row ≡ true

-- a row is reached already, or it is added with this term
abbrev pub Reaches : List Member → List Bool → List Member → List Bool → ℕ → EntTerm → Type 0
Reaches old marks new marks' row name =
    (IsReached marks row × (new ≡ old) × (marks' ≡ marks))
    ⊎ ((new ≡ old ++ record { row = row; name = name } ∷ []) × (marks' ≡ slice_set marks row true))

-- the first g generators are reached, and each member is one of them
pub record HasBegun (P : Presentation) (m : Content) (entries : List ℕ) (g : ℕ) (members : List Member) (reached : List Bool) : Type 0 where
  pub marks : length reached ≡ made_of m
  pub member : (n : ℕ) (x : Member) → slice_get members n ≡ Some x
      → (i : ℕ) × (e : ℕ) × (entity_at (slice_get P.generators i) ≡ Some e) × (x.row ≡ slice_index entries i) × (x.name ≡ alone i)
  pub listed : (r : ℕ) → IsReached reached r → IsIn members r
  pub generators : (i e : ℕ) → i < g → entity_at (slice_get P.generators i) ≡ Some e → IsReached reached (slice_index entries i)

-- a member to whose row a key leads from another one's
pub record IsStepFrom (m : Content) (from x : Member) : Type 0 where
  pub key : ℕ
  pub cell : cell_of m from.row key ≡ Some x.row
  pub named : x.name ≡ one_further from.name key

-- the rows to which the first k keys lead from a member's row are reached, and each new member is such a row
pub record ExpandsTo (m : Content) (from : Member) (k : ℕ)
    (old : List Member) (marks : List Bool) (new : List Member) (marks' : List Bool) : Type 0 where
  pub marked : length marks' ≡ length marks
  pub kept : (r : ℕ) → IsReached marks r → IsReached marks' r
  pub members : (r : ℕ) → IsIn old r → IsIn new r
  pub steps : (n : ℕ) (x : Member) → slice_get new n ≡ Some x → ((j : ℕ) × (slice_get old j ≡ Some x)) ⊎ IsStepFrom m from x
  pub listed : (r : ℕ) → IsReached marks' r → IsReached marks r ⊎ IsIn new r
  pub cells : (key s : ℕ) → key < k → cell_of m from.row key ≡ Some s → IsReached marks' s

abbrev pub Expands : Content → Member → List Member → List Bool → List Member → List Bool → Type 0
Expands m from old marks new marks' = ExpandsTo m from (length (keys_of m)) old marks new marks'

-- the rows to which keys lead from the first n members are reached, and each new member is such a row
pub record IsNextOf (m : Content) (n : ℕ) (old : List Member) (marks : List Bool) (new : List Member) (marks' : List Bool) : Type 0 where
  pub marked : length marks' ≡ length marks
  pub kept : (r : ℕ) → IsReached marks r → IsReached marks' r
  pub steps : (i : ℕ) (x : Member) → slice_get new i ≡ Some x
      → (j : ℕ) × (from : Member) × (slice_get old j ≡ Some from) × IsStepFrom m from x
  pub listed : (r : ℕ) → IsReached marks' r → IsReached marks r ⊎ IsIn new r
  pub cells : (j key s : ℕ) (from : Member) → j < n → slice_get old j ≡ Some from → cell_of m from.row key ≡ Some s → IsReached marks' s

abbrev pub IsNext : Content → List Member → List Bool → List Member → List Bool → Type 0
IsNext m old marks new marks' = IsNextOf m (length old) old marks new marks'

module _ (S : Schema) (P : Presentation) (m : Content) (entries : List ℕ) where
  -- the term has this depth, and leads to the row
  pub record LeadsAt (d : ℕ) (row : ℕ) (t : EntTerm) : Type 0 where
    pub entity : entity_of S P.generators t ≡ Some (row_entity m row)
    pub depth : depth_of t ≡ d
    pub leads : row_of_term m entries t ≡ Some row
    pub live : live_of m row ≡ true

  -- each member's term has depth d, each row that is reached is a member's or reached by a lesser term, and each term up to d
  -- reaches its row
  pub record IsLevel (d : ℕ) (members : List Member) (reached : List Bool) : Type 0 where
    pub marks : length reached ≡ made_of m
    pub member : (n : ℕ) (x : Member) → slice_get members n ≡ Some x → LeadsAt d x.row x.name
    pub listed : (r : ℕ) → IsReached reached r → IsIn members r ⊎ ((t : EntTerm) × (c : ℕ) × (c < d) × LeadsAt c r t)
    pub all : (t : EntTerm) (e r : ℕ) → entity_of S P.generators t ≡ Some e → depth_of t ≤ d → row_of_term m entries t ≡ Some r
        → IsReached reached r

-- The walk that names rows: which rows are named, and in which order.
use Rattle.std.specs.Prelude.{ℕ, Bool, true, false, List, [], ◌∷◌, ◌++◌, Some, ◌≡◌, ◌<◌, ◌+◌, ◌⊎◌, length, slice_get, slice_set}
use Rattle.std.specs.Prelude.{slice_index, slice_index_or, if◌then◌else◌}
use Rattle.cq_tables.specs.Content.{Content, made_of, live_of, cell_of}
use Rattle.cq_tables.specs.Content.{entity_of as row_entity}
use Rattle.cq_rows.specs.Rows.{row_of_term}
use Rattle.cq_theory.specs.declared.presentation.Presentation.{Presentation}
use Rattle.cq_theory.specs.SchemaData.{SchemaData as Schema}
use Rattle.cq_theory.specs.declared.term.EntTerm.{EntTerm}
use Rattle.cq_instance.specs.TermOrder.{IsBefore, IsUpTo, generator_term, one_further}
use Rattle.cq_theory.specs.Sorts.{entity_of, entity_at}

-- what is named so far: the rows in order, their names, and for each row of the tables whether it is among them
pub record Listing : Type 0 where
  pub rows : List ℕ
  pub names : List EntTerm
  pub met : List Bool

-- how many rows of the tables are not named
abbrev pub unmet : List Bool → ℕ
unmet [] = 0
unmet (true ∷ met) = unmet met
unmet (false ∷ met) = unmet met + 1

-- the row gets the name if it has none
pub record Meets (old new : Listing) (row : ℕ) (name : EntTerm) : Type 0 where
  pub rows : new.rows ≡ (if slice_index_or old.met row false then old.rows else old.rows ++ row ∷ [])
  pub names : new.names ≡ (if slice_index_or old.met row false then old.names else old.names ++ name ∷ [])
  pub met : new.met ≡ (if slice_index_or old.met row false then old.met else slice_set old.met row true)

-- a row that is named, by a term that is at most u
pub record IsNamedUpTo (w : Listing) (row : ℕ) (u : EntTerm) : Type 0 where
  pub at : ℕ
  pub name : EntTerm
  pub is_row : slice_get w.rows at ≡ Some row
  pub is_name : slice_get w.names at ≡ Some name
  pub up_to : IsUpTo name u

-- a step further than a name, from one of the first n rows, or from row n along one of the first k keys
abbrev pub IsPast : ℕ → ℕ → ℕ → ℕ → Type 0
IsPast n k at key = (at < n) ⊎ ((at ≡ n) × (key < k))

pub record IsStep (w : Listing) (n k : ℕ) (u : EntTerm) : Type 0 where
  pub at : ℕ
  pub key : ℕ
  pub name : EntTerm
  pub is_name : slice_get w.names at ≡ Some name
  pub past : IsPast n k at key
  pub is : u ≡ one_further name key

abbrev pub IsGenerator : ℕ → EntTerm → Type 0
IsGenerator g u = (n : ℕ) × (n < g) × (u ≡ generator_term n)

module _ (S : Schema) (P : Presentation) (m : Content) (entries : List ℕ) where
  -- each named row is live, stands once, and has a term that leads to it; the names are in order
  pub record IsListing (w : Listing) : Type 0 where
    pub same_length : length w.names ≡ length w.rows
    pub marks : length w.met ≡ made_of m
    pub counted : length w.rows + unmet w.met ≡ made_of m
    pub marked : (i r : ℕ) → slice_get w.rows i ≡ Some r → slice_index_or w.met r false ≡ true
    pub found : (r : ℕ) → slice_index_or w.met r false ≡ true → (i : ℕ) × (slice_get w.rows i ≡ Some r)
    pub once : (i j r : ℕ) → slice_get w.rows i ≡ Some r → slice_get w.rows j ≡ Some r → i ≡ j
    pub live : (i r : ℕ) → slice_get w.rows i ≡ Some r → live_of m r ≡ true
    pub entity : (i r : ℕ) (t : EntTerm) → slice_get w.rows i ≡ Some r → slice_get w.names i ≡ Some t
        → entity_of S P.generators t ≡ Some (row_entity m r)
    pub leads : (i r : ℕ) (t : EntTerm) → slice_get w.rows i ≡ Some r → slice_get w.names i ≡ Some t → row_of_term m entries t ≡ Some r
    pub sorted : (i j : ℕ) (t u : EntTerm) → i < j → slice_get w.names i ≡ Some t → slice_get w.names j ≡ Some u → IsBefore t u

  -- The first g generators are named, and so is each row to which a key leads from the first n rows, or from row n along
  -- one of the first k keys; and each name is such a term.
  pub record IsWalked (w : Listing) (g n k : ℕ) : Type 0 where
    pub listing : IsListing w
    pub origin : (j : ℕ) (u : EntTerm) → slice_get w.names j ≡ Some u → IsGenerator g u ⊎ IsStep w n k u
    pub generators : (i e : ℕ) → i < g → entity_at (slice_get P.generators i) ≡ Some e
        → IsNamedUpTo w (slice_index entries i) (generator_term i)
    pub steps : (i key r s : ℕ) (t : EntTerm) → IsPast n k i key → slice_get w.rows i ≡ Some r → slice_get w.names i ≡ Some t
        → cell_of m r key ≡ Some s
        → IsNamedUpTo w s (one_further t key)

  -- all generators are named and all steps from named rows
  abbrev pub IsWalkOf : List ℕ → List EntTerm → Type 0
  IsWalkOf rows names = (w : Listing) × IsWalked w (length P.generators) (length w.rows) 0 × (w.rows ≡ rows) × (w.names ≡ names)

-- the keys below `key` are followed from the row at a place of the list
pub record IsExpanding (S : Schema) (m : Content) (initial w : Listing) (at row key : ℕ) : Type 0 where
  pub marks : length w.met ≡ made_of m
  pub at_row : slice_get w.rows at ≡ Some row
  pub named : at < length w.names
  pub walked : (P : Presentation) (entries : List ℕ) (g : ℕ) → IsWalked S P m entries initial g at 0 → IsWalked S P m entries w g at key

-- What callers see of `Tables`: numbered rows and their cells. Clauses name only what is observed of them here.
use Rattle.std.specs.Prelude.{◌≡◌, ℕ, ◌<◌, Bool, true, false, List, [], ◌∷◌, length, Option, Some, None, option_and_then, slice_index_or}
use Rattle.std.specs.Prelude.{slice_get, ◌==◌, if◌then◌else◌}

-- rows by number: their entities, which of them are live, and their cells, of each row by key
pub record Content : Type 0 where
  pub entities : ℕ
  pub keys : List (ℕ × ℕ)
  pub kinds : List ℕ
  pub alive : List Bool
  pub cells : List (List (Option ℕ))

-- how many entities there are
unfoldable pub entities_of : Content → ℕ
entities_of m = m.entities

-- each foreign key: the entity from which and the entity to which it goes
unfoldable pub keys_of : Content → List (ℕ × ℕ)
keys_of m = m.keys

-- how many rows were made
unfoldable pub made_of : Content → ℕ
made_of m = length m.kinds

-- whether a row was made and is not renamed
unfoldable pub live_of : Content → ℕ → Bool
live_of m r = slice_index_or m.alive r false

-- the entity of a row
unfoldable pub entity_of : Content → ℕ → ℕ
entity_of m r = slice_index_or m.kinds r 0

-- what the cell of a row at a key holds
unfoldable pub cell_of : Content → ℕ → ℕ → Option ℕ
cell_of m r k = slice_index_or (slice_index_or m.cells r []) k None

-- the entity to which a key leads from an entity, if it goes from there
unfoldable pub step_of : List (ℕ × ℕ) → ℕ → ℕ → Option ℕ
step_of keys e k = option_and_then (λ (p : ℕ × ℕ). if p.0 == e then Some p.1 else None) (slice_get keys k)

-- the entity to which a path leads from an entity, if it can be followed
abbrev pub end_of : List (ℕ × ℕ) → ℕ → List ℕ → Option ℕ
end_of keys e [] = Some e
end_of keys e (k ∷ ks) = option_and_then (λ d. end_of keys d ks) (step_of keys e k)

-- the row to which a path leads from a row, where no cell on the way is empty
abbrev pub trace_of : Content → ℕ → List ℕ → Option ℕ
trace_of m r [] = Some r
trace_of m r (k ∷ ks) = option_and_then (λ s. trace_of m s ks) (cell_of m r k)

-- a filled cell of a live row holds a live row, of the entity to which the key leads
pub record IsHeld (m : Content) (r k s : ℕ) : Type 0 where
  pub live : live_of m s ≡ true
  pub step : step_of (keys_of m) (entity_of m r) k ≡ Some (entity_of m s)

-- what each value of `Tables` keeps: live rows were made, each row is of an entity, only live rows have filled cells, and
-- these hold live rows of the right entities
pub record IsWhole (m : Content) : Type 0 where
  pub made : (r : ℕ) → live_of m r ≡ true → r < made_of m
  pub kind : (r : ℕ) → r < made_of m → entity_of m r < entities_of m
  pub filled : (r k s : ℕ) → cell_of m r k ≡ Some s → live_of m r ≡ true
  pub held : (r k s : ℕ) → live_of m r ≡ true → cell_of m r k ≡ Some s → IsHeld m r k s

-- a path leads from a live row to a live row, of the entity to which it leads
pub record IsEnd (m : Content) (r : ℕ) (path : List ℕ) (s : ℕ) : Type 0 where
  pub live : live_of m s ≡ true
  pub end : end_of (keys_of m) (entity_of m r) path ≡ Some (entity_of m s)

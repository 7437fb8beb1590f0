-- What the calls that change `Tables` do, by what can be observed of them.
use Rattle.std.specs.Prelude.{◌≡◌, ◌≢◌, ℕ, zero, suc, ◌+◌, true, false, List, [], ◌∷◌, ◌++◌, Option, Some, None, ◌==◌, if◌then◌else◌}
use Rattle.cq_tables.specs.Content.{Content, entities_of, keys_of, made_of, live_of, entity_of, cell_of}

-- a new row, live and of this entity, its cells empty; all else is as it was
pub record AddsRow (old new : Content) (entity row : ℕ) : Type 0 where
  pub number : row ≡ made_of old
  pub keys : keys_of new ≡ keys_of old
  pub entities : entities_of new ≡ entities_of old
  pub made : made_of new ≡ made_of old + 1
  pub live : (r : ℕ) → live_of new r ≡ (if r == row then true else live_of old r)
  pub kind : (r : ℕ) → entity_of new r ≡ (if r == row then entity else entity_of old r)
  pub cell : (r k : ℕ) → cell_of new r k ≡ (if r == row then None else cell_of old r k)

-- one cell is filled
pub record SetsCell (old new : Content) (row key to : ℕ) : Type 0 where
  pub keys : keys_of new ≡ keys_of old
  pub entities : entities_of new ≡ entities_of old
  pub made : made_of new ≡ made_of old
  pub live : (r : ℕ) → live_of new r ≡ live_of old r
  pub kind : (r : ℕ) → entity_of new r ≡ entity_of old r
  pub there : cell_of new row key ≡ Some to
  pub others : (r k : ℕ) → (r ≡ row → k ≡ key → ⊥) → cell_of new r k ≡ cell_of old r k

-- a row after the renaming of `from` to `to`
abbrev pub moved : ℕ → ℕ → ℕ → ℕ
moved from to r = if r == from then to else r

-- what a cell holds after the renaming
abbrev pub moved_cell : ℕ → ℕ → Option ℕ → Option ℕ
moved_cell from to None = None
moved_cell from to (Some r) = Some (moved from to r)

-- the first that is filled
abbrev pub first_of : Option ℕ → Option ℕ → Option ℕ
first_of None o = o
first_of (Some r) o = Some r

-- two rows where both are filled and differ
abbrev pub pair_of : Option ℕ → Option ℕ → List (ℕ × ℕ)
pair_of None o = []
pair_of (Some a) None = []
pair_of (Some a) (Some b) = if a == b then [] else (a, b) ∷ []

-- `from` is no longer live and has no filled cells, every cell that held it holds `to`, and its cells fill the empty cells
-- of `to`
pub record Renames (old new : Content) (from to : ℕ) : Type 0 where
  pub keys : keys_of new ≡ keys_of old
  pub entities : entities_of new ≡ entities_of old
  pub made : made_of new ≡ made_of old
  pub kind : (r : ℕ) → entity_of new r ≡ entity_of old r
  pub live : (r : ℕ) → live_of new r ≡ (if r == from then false else live_of old r)
  pub joined : (k : ℕ) → cell_of new to k ≡ first_of (moved_cell from to (cell_of old to k)) (moved_cell from to (cell_of old from k))
  pub gone : (k : ℕ) → cell_of new from k ≡ None
  pub others : (r k : ℕ) → r ≢ from → r ≢ to → cell_of new r k ≡ moved_cell from to (cell_of old r k)

-- by key, below n: the pairs where both rows had a cell, as they stand after the renaming, without pairs of one row with itself
abbrev pub given_pairs : Content → ℕ → ℕ → ℕ → List (ℕ × ℕ)
given_pairs m from to zero = []
given_pairs m from to (suc n) =
    given_pairs m from to n ++ pair_of (moved_cell from to (cell_of m to n)) (moved_cell from to (cell_of m from n))

-- Where the cells of rows stand in one list: row by row, and of each row by key, a place for each key of its entity.
use Rattle.std.specs.Prelude.{ℕ, zero, suc, ◌+◌, List, [], ◌∷◌, ◌++◌, length, Option, None, is_some, slice_index_or, if◌then◌else◌}
use Rattle.cq_tables.specs.Content.{step_of}
use Rattle.cq_tables.specs.Changes.{pair_of}

-- the sum of f over the numbers below n
abbrev pub sum_below : (ℕ → ℕ) → ℕ → ℕ
sum_below f zero = 0
sum_below f (suc n) = sum_below f n + f n

-- how many of the first n keys go from an entity
unfoldable pub rank_of : List (ℕ × ℕ) → ℕ → ℕ → ℕ
rank_of keys e n = sum_below (λ k. if is_some (step_of keys e k) then 1 else 0) n

-- how many keys go from an entity
unfoldable pub width_of : List (ℕ × ℕ) → ℕ → ℕ
width_of keys e = rank_of keys e (length keys)

-- the numbers of those of the first n keys that go from an entity, in order
unfoldable pub keys_below : List (ℕ × ℕ) → ℕ → ℕ → List ℕ
keys_below keys e zero = []
keys_below keys e (suc n) = keys_below keys e n ++ (if is_some (step_of keys e n) then n ∷ [] else [])

-- the numbers of the keys that go from an entity, in order
unfoldable pub keys_from : List (ℕ × ℕ) → ℕ → List ℕ
keys_from keys e = keys_below keys e (length keys)

-- where the cells of a row begin
unfoldable pub start_of : List (ℕ × ℕ) → List ℕ → ℕ → ℕ
start_of keys kinds r = sum_below (λ n. width_of keys (slice_index_or kinds n 0)) r

-- where the cell of a row at a key stands
unfoldable pub place_of : List (ℕ × ℕ) → List ℕ → ℕ → ℕ → ℕ
place_of keys kinds r k = start_of keys kinds r + rank_of keys (slice_index_or kinds r 0) k

-- what stands there, or None at a key that goes not from the row's entity
unfoldable pub stored_at : List (ℕ × ℕ) → List ℕ → List (Option ℕ) → ℕ → ℕ → Option ℕ
stored_at keys kinds cells r k =
    if is_some (step_of keys (slice_index_or kinds r 0) k) then slice_index_or cells (place_of keys kinds r k) None else None

-- the values of f at the numbers below n
abbrev pub values_below : {A : Type 0} → (ℕ → A) → ℕ → List A
values_below f zero = []
values_below f (suc n) = values_below f n ++ f n ∷ []

-- the cells, of each row by key
unfoldable pub cells_by_row : List (ℕ × ℕ) → List ℕ → List (Option ℕ) → List (List (Option ℕ))
cells_by_row keys kinds cells = values_below (λ r. values_below (stored_at keys kinds cells r) (length keys)) (length kinds)

-- the pairs of filled cells that differ, of the first n places from `into` and from `out` on
abbrev pub pairs_at : List (Option ℕ) → ℕ → ℕ → ℕ → List (ℕ × ℕ)
pairs_at cells into out zero = []
pairs_at cells into out (suc n) =
    pairs_at cells into out n ++ pair_of (slice_index_or cells (into + n) None) (slice_index_or cells (out + n) None)

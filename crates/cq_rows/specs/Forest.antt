-- Rows in classes: a parent has no larger number, and a root is its own parent.
use Rattle.std.specs.Prelude.{◌≡◌, ℕ, zero, suc, ◌<◌, ◌≤◌, List, length, map, slice_index, ◌==◌, if◌then◌else◌}
use Rattle.std.specs.List.{range_with_len}

abbrev pub root_from : List ℕ → ℕ → ℕ → ℕ
root_from ps zero r = r
root_from ps (suc n) r = if slice_index ps r == r then r else root_from ps n (slice_index ps r)

-- the lowest row of a class
unfoldable pub root_of : List ℕ → ℕ → ℕ
root_of ps r = root_from ps r r

abbrev pub IsForest : List ℕ → Type 0
IsForest ps = (r : ℕ) → r < length ps → slice_index ps r ≤ r

-- the row to which each row was renamed
abbrev pub renamed_by : List ℕ → List ℕ → List ℕ
renamed_by ps at = map (λ r. slice_index at (root_of ps r)) (range_with_len 0 (length ps))

-- the roots after two classes are joined
abbrev pub joined_root : List ℕ → ℕ → ℕ → ℕ → ℕ → ℕ
joined_root ps from to low r =
    if root_of ps r == root_of ps from then low else (if root_of ps r == root_of ps to then low else root_of ps r)

-- what the classes keep: the live row of a class belongs to it
pub record AreClasses (ps at : List ℕ) : Type 0 where
  pub forest : IsForest ps
  pub count : length at ≡ length ps
  pub inside : (r : ℕ) → r < length ps → slice_index at (root_of ps r) < length ps
  pub own : (r : ℕ) → r < length ps → root_of ps (slice_index at (root_of ps r)) ≡ root_of ps r

-- The classes of numbers, of which some pairs are listed as one.
use Rattle.std.specs.Prelude.{ℕ, Bool, List, [], ◌∷◌, ◌==◌, ◌≡◌, if◌then◌else◌, Some, filter, length, max, min, slice_get}
use Rattle.cq_theory.specs.Canonical.{below}

-- the least equivalence that contains the listed pairs
pub data AreOne (links : List (ℕ × ℕ)) : ℕ → ℕ → Type 0 where
  reflexive : (a : ℕ) → AreOne links a a
  symmetric : {a b : ℕ} → AreOne links a b → AreOne links b a
  transitive : {a b c : ℕ} → AreOne links a b → AreOne links b c → AreOne links a c
  listed : {a b : ℕ} (i : ℕ) → slice_get links i ≡ Some (a, b) → AreOne links a b

-- the first members of classes after one more pair: the class that begins later goes into the other one
abbrev pub with_link : (ℕ → ℕ) → ℕ × ℕ → ℕ → ℕ
with_link first link x =
    if first x == max (first link.0) (first link.1) then min (first link.0) (first link.1) else first x

-- the first members after some more pairs
abbrev pub with_links : (ℕ → ℕ) → List (ℕ × ℕ) → ℕ → ℕ
with_links first [] = first
with_links first (link ∷ links) = with_links (with_link first link) links

-- The first member of a number's class. Without pairs each number is alone.
abbrev pub first_of : List (ℕ × ℕ) → ℕ → ℕ
first_of links = with_links (λ x. x) links

abbrev pub is_first : List (ℕ × ℕ) → ℕ → Bool
is_first links x = first_of links x == x

-- the number of a class: how many classes begin before it
abbrev pub class_of : List (ℕ × ℕ) → ℕ → ℕ
class_of links x = length (filter (is_first links) (below (first_of links x)))

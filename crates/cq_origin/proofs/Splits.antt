-- Lists in which what passes a test stands before what doesn't.
use Rattle.std.proofs.Common.{ℕ, zero, suc, Bool, true, false, List, [], ◌∷◌, ◌++◌, ◌+◌, ◌≡◌, ◌<◌, ◌≤◌, ◌⊎◌, inl, inr, Some, length, get_or, refl, sym, ap, subst, ◌∙◌, append_assoc, arith}
use Rattle.std.specs.Prelude.{slice_get}
use Rattle.std.specs.List.{flat_map, range_with_len}
use Rattle.std.specs.List.Sorted.{IsPartitionedBy, IsPartitionPoint}
use Rattle.std.proofs.lemmas.Bool.{cases_lt, false≢true}
use Rattle.std.proofs.lemmas.List.{length-append}
use Rattle.cq_theory.proofs.Every.{Every}

-- a member of two lists together is one of either
pub record IsIn {X : Type 0} (xs : List X) (x : X) : Type 0 where
  pub place : ℕ
  pub at : slice_get xs place ≡ Some x

pub in_either : {X : Type 0} (xs ys : List X) (n : ℕ) (x : X) → slice_get (xs ++ ys) n ≡ Some x → IsIn xs x ⊎ IsIn ys x
in_either [] ys n x h = inr (record { place = n; at = h })
in_either (y ∷ xs) ys zero x h = inl (record { place = 0; at = h })
in_either (y ∷ xs) ys (suc n) x h = elim (in_either xs ys n x h) [ inl i ↦ inl (record { place = suc i.place; at = i.at }) | inr i ↦ inr i ]

-- ranges of numbers one behind the other
pub range_split : {X : Type 0} (f : ℕ → List X) (s a b : ℕ) → flat_map f (range_with_len s (a + b)) ≡ flat_map f (range_with_len s a) ++ flat_map f (range_with_len (s + a) b)
range_split f s zero b = let here : 0 + b ≡ b = omega arith in let there : s ≡ s + 0 = omega arith in λ i. flat_map f (range_with_len (there i) (here i))
range_split f s (suc a) b =
    let here : suc a + b ≡ suc (a + b) = omega arith in
    let there : s + 1 + a ≡ s + suc a = omega arith in
    ap (λ n. flat_map f (range_with_len s n)) here
    ∙ ap (λ l. f s ++ l) (range_split f (s + 1) a b ∙ ap (λ n. flat_map f (range_with_len (s + 1) a) ++ flat_map f (range_with_len n b)) there)
    ∙ sym (append_assoc (f s) (flat_map f (range_with_len (s + 1) a)) (flat_map f (range_with_len (s + suc a) b)))

-- the numbers of a range
pub in_range : (s n k y : ℕ) → slice_get (range_with_len s n) k ≡ Some y → (s ≤ y) × (y < s + n)
in_range s zero k y h = cc
in_range s (suc n) zero y h = let same : s ≡ y = cc in (omega arith, omega arith)
in_range s (suc n) (suc k) y h = let rest = in_range (s + 1) n k y h in (omega (arith, rest.0), omega (arith, rest.1))

module _ {X : Type 0} (p : X → Bool) where
  abbrev Passes : X → Type 0
  Passes x = p x ≡ true

  abbrev Fails : X → Type 0
  Fails x = p x ≡ false

  -- the test at each place of two lists, of which the first passes and the second doesn't
  before_passes : (xs ys : List X) (k : ℕ) (d : X) → Every Passes xs → k < length xs → p (get_or (xs ++ ys) k d) ≡ true
  before_passes [] ys k d h within = absurd (omega arith)
  before_passes (x ∷ xs) ys zero d h within = h.0
  before_passes (x ∷ xs) ys (suc k) d h within = before_passes xs ys k d h.1 (omega (arith, within))

  fails_at : (ys : List X) (k : ℕ) (d : X) → Every Fails ys → k < length ys → p (get_or ys k d) ≡ false
  fails_at [] k d h within = absurd (omega arith)
  fails_at (y ∷ ys) zero d h within = h.0
  fails_at (y ∷ ys) (suc k) d h within = fails_at ys k d h.1 (omega (arith, within))

  after_fails : (xs ys : List X) (k : ℕ) (d : X) → Every Fails ys → length xs ≤ k → k < length (xs ++ ys) → p (get_or (xs ++ ys) k d) ≡ false
  after_fails [] ys k d h low within = fails_at ys k d h within
  after_fails (x ∷ xs) ys zero d h low within = absurd (omega (arith, low))
  after_fails (x ∷ xs) ys (suc k) d h low within = after_fails xs ys k d h (omega (arith, low)) (omega (arith, within))

  module _ (xs ys : List X) (passes : Every Passes xs) (fails : Every Fails ys) where
    pub is_partitioned : IsPartitionedBy p (xs ++ ys)
    is_partitioned i j d low within passed =
        elim (cases_lt i (length xs)) [
          | inl lt ↦ before_passes xs ys i d passes lt
          | inr ge ↦ absurd (false≢true (sym (after_fails xs ys j d fails (omega (arith, ge, low)) within) ∙ passed))
        ]

    -- the point between the two lists is the only one
    pub point_is : (i : ℕ) → i ≤ length (xs ++ ys) → X → IsPartitionPoint Passes Fails (xs ++ ys) i → i ≡ length xs
    point_is i bound d point =
        elim (cases_lt i (length xs)) [
          | inl lt ↦ absurd (false≢true (sym (point.1 i d (omega arith) (omega (arith, length-append xs ys, lt))) ∙ before_passes xs ys i d passes lt))
          | inr ge ↦ elim (cases_lt (length xs) i) [
            | inl lt ↦ absurd (false≢true (sym (after_fails xs ys (length xs) d fails (omega arith) (omega (arith, bound, lt))) ∙ point.0 (length xs) d (omega arith) lt))
            | inr same ↦ omega (arith, ge, same)
          ]
        ]

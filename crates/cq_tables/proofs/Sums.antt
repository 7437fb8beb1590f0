-- Sums over the numbers below one.
use Rattle.std.proofs.Common.{◌≡◌, ℕ, zero, suc, ◌+◌, ◌<◌, ◌≤◌, refl, arith, inl, inr}
use Rattle.std.proofs.lemmas.Bool.{cases_lt}
use Rattle.cq_tables.specs.Places.{sum_below}

-- the sums grow by their terms
pub sum_below-next : (f : ℕ → ℕ) (k n : ℕ) → k < n → sum_below f k + f k ≤ sum_below f n
sum_below-next f k zero h = absurd (omega arith)
sum_below-next f k (suc n) h = elim (cases_lt k n) as (λ _. sum_below f k + f k ≤ sum_below f n + f n) [
  | inl l ↦ omega (arith, sum_below-next f k n l)
  | inr g ↦ let e : k ≡ n = omega arith in rw e (omega arith)
]

-- the term in which a number below the sum stands
pub record Stands (f : ℕ → ℕ) (n i : ℕ) : Type 0 where
  pub term : ℕ
  pub below : term < n
  pub from : sum_below f term ≤ i
  pub to : i < sum_below f term + f term

pub stands : (f : ℕ → ℕ) (n i : ℕ) → i < sum_below f n → Stands f n i
stands f zero i h = absurd (omega arith)
stands f (suc n) i h = elim (cases_lt i (sum_below f n)) [
  | inl l ↦ let s = stands f n i l in record { term = s.term; below = omega (arith, s.below); from = s.from; to = s.to }
  | inr g ↦ record { term = n; below = omega arith; from = g; to = h }
]

-- sums of the same terms
pub sum_below-same : (f g : ℕ → ℕ) (n : ℕ) → ((k : ℕ) → k < n → f k ≡ g k) → sum_below f n ≡ sum_below g n
sum_below-same f g zero h = refl
sum_below-same f g (suc n) h = rw (sum_below-same f g n (λ k l. h k (omega arith)), h n (omega arith)) refl

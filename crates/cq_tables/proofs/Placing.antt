-- Each cell of a row has a place of its own, and each place is that of a cell.
use Rattle.std.proofs.Common.{◌≡◌, ◌≢◌, ℕ, suc, ◌+◌, ◌-◌, ◌<◌, ◌≤◌, Bool, true, false, List, length, get_or, Some, None, IsSome, cond, refl, ap, arith, ⊎_elim, ◌⊎◌, inl, inr}
use Rattle.std.proofs.lemmas.Bool.{cases_lt, cases_order, false≢true}
use Rattle.std.proofs.lemmas.Option.{slice_get_past}
use Rattle.std.specs.Option.{is_some}
use Rattle.cq_tables.specs.Content.{step_of}
use Rattle.cq_tables.specs.Places.{rank_of, width_of, start_of, place_of, sum_below}
use Rattle.cq_tables.proofs.Sums.{sum_below-next, sum_below-same, Stands, stands}

step_past : (keys : List (ℕ × ℕ)) (e k : ℕ) → length keys ≤ k → step_of keys e k ≡ None
unfolding step_of
step_past keys e k h = rw (slice_get_past keys k h) refl

-- a key that goes from an entity is one of the keys
pub goes_below : (keys : List (ℕ × ℕ)) (e k : ℕ) → IsSome (step_of keys e k) → k < length keys
goes_below keys e k h =
    ⊎_elim (λ p. p) (λ p. absurd (false≢true (rw (step_past keys e k p) at h))) (cases_lt k (length keys))

pub step_below : (keys : List (ℕ × ℕ)) (e k d : ℕ) → step_of keys e k ≡ Some d → k < length keys
step_below keys e k d h = goes_below keys e k (rw h refl)

pub not_past : (keys : List (ℕ × ℕ)) (e k : ℕ) → length keys ≤ k → is_some (step_of keys e k) ≡ false
not_past keys e k h = rw (step_past keys e k h) refl

abbrev ticks : List (ℕ × ℕ) → ℕ → ℕ → ℕ
ticks keys e k = cond (is_some (step_of keys e k)) 1 0

-- a key that goes from the entity is counted
pub rank_apart : (keys : List (ℕ × ℕ)) (e k n : ℕ) → IsSome (step_of keys e k) → k < n → rank_of keys e k < rank_of keys e n
unfolding rank_of
rank_apart keys e k n h l =
    let next = sum_below-next (ticks keys e) k n l in
    omega (arith, rw h at next)

pub slot_below : (keys : List (ℕ × ℕ)) (e k : ℕ) → IsSome (step_of keys e k) → rank_of keys e k < width_of keys e
unfolding width_of
slot_below keys e k h = rank_apart keys e k (length keys) h (goes_below keys e k h)

rank_same : (keys : List (ℕ × ℕ)) (e j k : ℕ) → IsSome (step_of keys e j) → IsSome (step_of keys e k) → rank_of keys e j ≡ rank_of keys e k → j ≡ k
rank_same keys e j k hj hk q = elim (cases_order j k) as (λ _. j ≡ k) [
  | inl p ↦ p
  | inr o ↦ elim o as (λ _. j ≡ k) [
    | inl l ↦ absurd (omega (arith, rank_apart keys e j k hj l))
    | inr g ↦ absurd (omega (arith, rank_apart keys e k j hk g))
  ]
]

-- the key with a number among those of its entity
record Ranked (keys : List (ℕ × ℕ)) (e i : ℕ) : Type 0 where
  key : ℕ
  goes : IsSome (step_of keys e key)
  rank : rank_of keys e key ≡ i

one_tick : (b : Bool) (s i : ℕ) → s ≤ i → i < s + cond b 1 0 → (b ≡ true) × (s ≡ i)
one_tick true s i h g = (refl, omega arith)
one_tick false s i h g = absurd (omega arith)

ranked : (keys : List (ℕ × ℕ)) (e n i : ℕ) → i < rank_of keys e n → Ranked keys e i
unfolding rank_of
ranked keys e n i h =
    let s : Stands (ticks keys e) n i = stands (ticks keys e) n i h in
    let t = one_tick (is_some (step_of keys e s.term)) (sum_below (ticks keys e) s.term) i s.from s.to in
    record { key = s.term; goes = t.0; rank = t.1 }

-- the cells of a row end before the next row's
pub start_next : (keys : List (ℕ × ℕ)) (kinds : List ℕ) (r n : ℕ) → r < n → start_of keys kinds r + width_of keys (get_or kinds r 0) ≤ start_of keys kinds n
unfolding start_of
start_next keys kinds r n h = sum_below-next (λ m. width_of keys (get_or kinds m 0)) r n h

pub start_same : (keys : List (ℕ × ℕ)) (kinds others : List ℕ) (n : ℕ) → ((k : ℕ) → k < n → get_or kinds k 0 ≡ get_or others k 0) → start_of keys kinds n ≡ start_of keys others n
unfolding start_of
start_same keys kinds others n h = sum_below-same _ _ n (λ k l. ap (width_of keys) (h k l))

-- one more row
pub start_suc : (keys : List (ℕ × ℕ)) (kinds : List ℕ) (n : ℕ) → start_of keys kinds (suc n) ≡ start_of keys kinds n + width_of keys (get_or kinds n 0)
unfolding start_of
start_suc keys kinds n = refl

pub place_is : (keys : List (ℕ × ℕ)) (kinds : List ℕ) (r k : ℕ) → place_of keys kinds r k ≡ start_of keys kinds r + rank_of keys (get_or kinds r 0) k
unfolding place_of
place_is keys kinds r k = refl

pub place_from : (keys : List (ℕ × ℕ)) (kinds : List ℕ) (r k : ℕ) → IsSome (step_of keys (get_or kinds r 0) k)
    → (start_of keys kinds r ≤ place_of keys kinds r k) × (place_of keys kinds r k < start_of keys kinds r + width_of keys (get_or kinds r 0))
unfolding place_of
place_from keys kinds r k h = (omega arith, omega (arith, slot_below keys (get_or kinds r 0) k h))

pub place_in : (keys : List (ℕ × ℕ)) (kinds : List ℕ) (r k n : ℕ) → r < n → IsSome (step_of keys (get_or kinds r 0) k) → place_of keys kinds r k < start_of keys kinds n
place_in keys kinds r k n l h = omega (arith, start_next keys kinds r n l, (place_from keys kinds r k h).1)

-- two cells do not have one place
pub place_same : (keys : List (ℕ × ℕ)) (kinds : List ℕ) (r k s j : ℕ) → IsSome (step_of keys (get_or kinds r 0) k) → IsSome (step_of keys (get_or kinds s 0) j)
    → place_of keys kinds r k ≡ place_of keys kinds s j → (r ≡ s) × (k ≡ j)
place_same keys kinds r k s j hk hj q = elim (cases_order r s) as (λ _. (r ≡ s) × (k ≡ j)) [
  | inl e ↦ (e, same_key e)
  | inr o ↦ elim o as (λ _. (r ≡ s) × (k ≡ j)) [
    | inl l ↦ absurd (omega (arith, q, place_in keys kinds r k s l hk, (place_from keys kinds s j hj).0))
    | inr g ↦ absurd (omega (arith, q, place_in keys kinds s j r g hj, (place_from keys kinds r k hk).0))
  ]
]
  where
    same_key : r ≡ s → k ≡ j
    same_key e =
        let there : place_of keys kinds r k ≡ place_of keys kinds r j = rw e (rw e at q) in
        let one = rw (place_is keys kinds r k, place_is keys kinds r j) at there in
        rank_same keys (get_or kinds r 0) k j hk (rw e hj) (omega (arith, one))

-- the cell that has a place
pub record Owner (keys : List (ℕ × ℕ)) (kinds : List ℕ) (n i : ℕ) : Type 0 where
  pub row : ℕ
  pub key : ℕ
  pub below : row < n
  pub goes : IsSome (step_of keys (get_or kinds row 0) key)
  pub place : place_of keys kinds row key ≡ i

pub owner : (keys : List (ℕ × ℕ)) (kinds : List ℕ) (n i : ℕ) → i < start_of keys kinds n → Owner keys kinds n i
unfolding start_of width_of place_of
owner keys kinds n i h =
    let wide : ℕ → ℕ = λ m. rank_of keys (get_or kinds m 0) (length keys) in
    let s : Stands wide n i = stands wide n i h in
    let k : Ranked keys (get_or kinds s.term 0) (i - sum_below wide s.term) = ranked keys (get_or kinds s.term 0) (length keys) (i - sum_below wide s.term) (omega (arith, s.to, s.from)) in
    record { row = s.term; key = k.key; below = s.below; goes = k.goes; place = omega (arith, k.rank, s.from) }

-- the cells of two rows are apart
pub rows_apart : (keys : List (ℕ × ℕ)) (kinds : List ℕ) (r t : ℕ) → r ≢ t
    → (start_of keys kinds r + width_of keys (get_or kinds r 0) ≤ start_of keys kinds t) ⊎ (start_of keys kinds t + width_of keys (get_or kinds t 0) ≤ start_of keys kinds r)
rows_apart keys kinds r t n =
    elim (cases_order r t) as (λ _. (start_of keys kinds r + width_of keys (get_or kinds r 0) ≤ start_of keys kinds t) ⊎ (start_of keys kinds t + width_of keys (get_or kinds t 0) ≤ start_of keys kinds r)) [
      | inl e ↦ absurd (n e)
      | inr o ↦ elim o [
        | inl l ↦ inl (start_next keys kinds r t l)
        | inr g ↦ inr (start_next keys kinds t r g)
      ]
    ]

-- a cell of another row is apart from the cells of a row
pub place_apart : (keys : List (ℕ × ℕ)) (kinds : List ℕ) (r k t : ℕ) → r ≢ t → IsSome (step_of keys (get_or kinds r 0) k)
    → (place_of keys kinds r k < start_of keys kinds t) ⊎ (start_of keys kinds t + width_of keys (get_or kinds t 0) ≤ place_of keys kinds r k)
place_apart keys kinds r k t n h =
    elim (rows_apart keys kinds r t n) as (λ _. (place_of keys kinds r k < start_of keys kinds t) ⊎ (start_of keys kinds t + width_of keys (get_or kinds t 0) ≤ place_of keys kinds r k)) [
      | inl l ↦ inl (omega (arith, l, (place_from keys kinds r k h).1))
      | inr g ↦ inr (omega (arith, g, (place_from keys kinds r k h).0))
    ]

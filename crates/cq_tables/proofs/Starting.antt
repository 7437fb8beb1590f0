-- The keys that go from an entity, in order, and what a loop over them passes over.
use Rattle.std.proofs.Common.{◌≡◌, ℕ, zero, suc, ◌+◌, ◌-◌, ◌<◌, ◌≤◌, Bool, true, false, List, [], ◌∷◌, ◌++◌, length, get_or, Some, IsSome, cond, refl, sym, ◌∙◌, ap, subst, arith, inl, inr, add-one, length-append}
use Rattle.std.proofs.lemmas.Bool.{cases_lt}
use Rattle.std.proofs.lemmas.List.{append-nil, get_or_push, get_or_append_left, get_or_past, get_or_default}
use Rattle.std.specs.Option.{is_some}
use Rattle.cq_tables.specs.Content.{step_of}
use Rattle.cq_tables.specs.Places.{rank_of, width_of, keys_below, keys_from}
use Rattle.cq_tables.proofs.Placing.{goes_below}

abbrev one_if : Bool → ℕ → List ℕ
one_if b n = cond b (n ∷ []) []

pub keys_below_suc : (keys : List (ℕ × ℕ)) (e n : ℕ) → keys_below keys e (n + 1) ≡ keys_below keys e n ++ cond (is_some (step_of keys e n)) (n ∷ []) []
unfolding keys_below
keys_below_suc keys e n = rw add-one refl

pub keys_below_none : (keys : List (ℕ × ℕ)) (e : ℕ) → keys_below keys e 0 ≡ []
unfolding keys_below
keys_below_none keys e = refl

length-one_if : (b : Bool) (n : ℕ) → length (one_if b n) ≡ cond b 1 0
length-one_if true n = refl
length-one_if false n = refl

pub length-keys_below : (keys : List (ℕ × ℕ)) (e n : ℕ) → length (keys_below keys e n) ≡ rank_of keys e n
unfolding keys_below rank_of
length-keys_below keys e zero = refl
length-keys_below keys e (suc n) =
    length-append (keys_below keys e n) (one_if (is_some (step_of keys e n)) n) ∙ (λ i. length-keys_below keys e n i + length-one_if (is_some (step_of keys e n)) n i)

pub length-keys_from : (keys : List (ℕ × ℕ)) (e : ℕ) → length (keys_from keys e) ≡ width_of keys e
unfolding keys_from width_of
length-keys_from keys e = length-keys_below keys e (length keys)

-- what stands in a list to which a number may be put
put : (P : ℕ → Type 0) (b : Bool) (xs : List ℕ) (n i : ℕ) → i < length (xs ++ one_if b n) → (i < length xs → P (get_or xs i 0)) → (b ≡ true → P n) → P (get_or (xs ++ one_if b n) i 0)
put P true xs n i h old new = elim (cases_lt i (length xs)) [
  | inl l ↦ subst P (sym (get_or_append_left xs (n ∷ []) 0 i l)) (old l)
  | inr g ↦ let last : length xs ≡ i = omega (arith, length-append xs (n ∷ [])) in subst P (sym (get_or_push xs n 0 i last)) (new refl)
]
put P false xs n i h old new =
    let same : xs ++ [] ≡ xs = append-nil xs in
    subst (λ (l : List ℕ). P (get_or l i 0)) (sym same) (old (omega (arith, ap length same)))

-- the keys below n that stand in the list
record IsListed (keys : List (ℕ × ℕ)) (e n k : ℕ) : Type 0 where
  goes : IsSome (step_of keys e k)
  below : k < n

listed : (keys : List (ℕ × ℕ)) (e n i : ℕ) → i < length (keys_below keys e n) → IsListed keys e n (get_or (keys_below keys e n) i 0)
unfolding keys_below
listed keys e zero i h = absurd (omega arith)
listed keys e (suc n) i h =
    put (IsListed keys e (suc n)) (is_some (step_of keys e n)) (keys_below keys e n) n i h
    (λ l. let one = listed keys e n i l in record { goes = one.goes; below = omega (arith, one.below) })
    (λ is. record { goes = is; below = omega arith })

rising : (keys : List (ℕ × ℕ)) (e n i j : ℕ) → i < j → j < length (keys_below keys e n) → get_or (keys_below keys e n) i 0 < get_or (keys_below keys e n) j 0
unfolding keys_below
rising keys e zero i j l h = absurd (omega arith)
rising keys e (suc n) i j l h =
    let b = is_some (step_of keys e n) in
    let xs = keys_below keys e n in
    let short : i < length xs = omega (arith, length-append xs (one_if b n), length-one_if b n, one b) in
    let before : get_or (xs ++ one_if b n) i 0 ≡ get_or xs i 0 = get_or_append_left xs (one_if b n) 0 i short in
    put (λ x. get_or (xs ++ one_if b n) i 0 < x) b xs n j h
    (λ k. omega (arith, before, rising keys e n i j l k))
    (λ is. omega (arith, before, (listed keys e n i short).below))
  where
    one : (b : Bool) → cond b 1 0 ≤ 1
    one true = omega arith
    one false = omega arith

record HasPlace (keys : List (ℕ × ℕ)) (e n k : ℕ) : Type 0 where
  within : rank_of keys e k < length (keys_below keys e n)
  found : get_or (keys_below keys e n) (rank_of keys e k) 0 ≡ k

placed : (keys : List (ℕ × ℕ)) (e n k : ℕ) → k < n → IsSome (step_of keys e k) → HasPlace keys e n k
unfolding keys_below
placed keys e zero k h goes = absurd (omega arith)
placed keys e (suc n) k h goes =
    let b = is_some (step_of keys e n) in
    let xs = keys_below keys e n in
    elim (cases_lt k n) [
      | inl l ↦
          let before = placed keys e n k l goes in
          record {
            within = omega (arith, before.within, length-append xs (one_if b n));
            found = get_or_append_left xs (one_if b n) 0 (rank_of keys e k) before.within ∙ before.found;
          }
      | inr g ↦
          let same : k ≡ n = omega arith in
          let last : length xs ≡ rank_of keys e k = length-keys_below keys e n ∙ ap (rank_of keys e) (sym same) in
          let is : b ≡ true = ap (λ x. is_some (step_of keys e x)) (sym same) ∙ goes in
          record {
            within = omega (arith, last, length-append xs (one_if b n), ap (λ x. length (one_if x n)) is);
            found = ap (λ x. get_or (xs ++ one_if x n) (rank_of keys e k) 0) is ∙ get_or_push xs n 0 (rank_of keys e k) last ∙ sym same;
          }
    ]

module _ (keys : List (ℕ × ℕ)) (e : ℕ) where
  -- the key at a place of the list, and where there is none, the number after the last key
  abbrev pub next_key : ℕ → ℕ
  next_key i = get_or (keys_from keys e) i (length keys)

  -- a key of the list goes from the entity
  pub listed_goes : (i d : ℕ) → i < length (keys_from keys e) → IsSome (step_of keys e (get_or (keys_from keys e) i d))
  unfolding keys_from
  listed_goes i d h = subst (λ x. IsSome (step_of keys e x)) (get_or_default (keys_from keys e) i 0 d h) (listed keys e (length keys) i h).goes

  not_first : (k : ℕ) → k < next_key 0 → IsSome (step_of keys e k) → ⊥
  unfolding keys_from
  not_first k h goes =
      let place = placed keys e (length keys) k (goes_below keys e k goes) goes in
      let first : next_key 0 ≡ get_or (keys_from keys e) 0 0 = get_or_default (keys_from keys e) 0 (length keys) 0 (omega (arith, place.within)) in
      elim (cases_lt 0 (rank_of keys e k)) [
        | inl l ↦ omega (arith, first, place.found, rising keys e (length keys) 0 (rank_of keys e k) l place.within)
        | inr g ↦
            let none : rank_of keys e k ≡ 0 = omega arith in
            omega (arith, first, place.found, ap (λ j. get_or (keys_from keys e) j 0) none)
      ]

  not_between : (i k : ℕ) → i < length (keys_from keys e) → next_key i < k → k < next_key (i + 1) → IsSome (step_of keys e k) → ⊥
  unfolding keys_from
  not_between i k h a b goes =
      let place = placed keys e (length keys) k (goes_below keys e k goes) goes in
      let j : ℕ = rank_of keys e k in
      let here : next_key i ≡ get_or (keys_from keys e) i 0 = get_or_default (keys_from keys e) i (length keys) 0 h in
      elim (cases_lt j i) [
        | inl l ↦ omega (arith, here, place.found, rising keys e (length keys) j i l h)
        | inr g ↦ elim (cases_lt i j) [
          | inl l ↦
              let next : next_key (i + 1) ≡ get_or (keys_from keys e) (i + 1) 0 = get_or_default (keys_from keys e) (i + 1) (length keys) 0 (omega (arith, place.within)) in
              elim (cases_lt (i + 1) j) [
                | inl m ↦ omega (arith, next, place.found, rising keys e (length keys) (i + 1) j m place.within)
                | inr m ↦
                    let same : i + 1 ≡ j = omega arith in
                    omega (arith, next, place.found, ap (λ n. get_or (keys_from keys e) n 0) same)
              ]
          | inr m ↦
              let same : i ≡ j = omega arith in
              omega (arith, here, place.found, ap (λ n. get_or (keys_from keys e) n 0) same)
        ]
      ]

  next_later : (i : ℕ) → i < length (keys_from keys e) → next_key i + 1 ≤ next_key (i + 1)
  unfolding keys_from
  next_later i h =
      let here : next_key i ≡ get_or (keys_from keys e) i 0 = get_or_default (keys_from keys e) i (length keys) 0 h in
      elim (cases_lt (i + 1) (length (keys_from keys e))) as (λ _. next_key i + 1 ≤ next_key (i + 1)) [
        | inl l ↦
            let next : next_key (i + 1) ≡ get_or (keys_from keys e) (i + 1) 0 = get_or_default (keys_from keys e) (i + 1) (length keys) 0 l in
            omega (arith, here, next, rising keys e (length keys) i (i + 1) (omega arith) l)
        | inr g ↦ omega (arith, here, (listed keys e (length keys) i h).below, get_or_past (keys_from keys e) (i + 1) (length keys) g)
      ]

  -- what a loop over the list keeps, where it stays true at the keys that are not in the list
  module _ (P : ℕ → Type 0) (skip : (k : ℕ) → ((d : ℕ) → step_of keys e k ≡ Some d → ⊥) → P k → P (k + 1)) where
    goes_if : (k d : ℕ) → step_of keys e k ≡ Some d → IsSome (step_of keys e k)
    goes_if k d is = ap is_some is

    skips : (a n : ℕ) → ((k : ℕ) → a ≤ k → k < a + n → IsSome (step_of keys e k) → ⊥) → P a → P (a + n)
    skips a zero none h = subst P (omega arith) h
    skips a (suc n) none h =
        subst P (omega arith) (skip (a + n) (λ d is. none (a + n) (omega arith) (omega arith) (goes_if (a + n) d is)) (skips a n (λ k from to. none k from (omega arith)) h))

    pub at_first : P 0 → P (next_key 0)
    at_first h = subst P (omega arith) (skips 0 (next_key 0) (λ k _ to. not_first k (omega arith)) h)

    pub at_next : (i k : ℕ) → i < length (keys_from keys e) → k ≡ next_key i → P (k + 1) → P (next_key (i + 1))
    at_next i k within is h =
        let later = next_later i within in
        let sum : k + 1 + (next_key (i + 1) - (k + 1)) ≡ next_key (i + 1) = omega arith in
        subst P sum (skips (k + 1) (next_key (i + 1) - (k + 1)) (λ j from to. not_between i j within (omega arith) (omega (arith, sum))) h)

  pub at_end : (P : ℕ → Type 0) (i : ℕ) → length (keys_from keys e) ≤ i → P (next_key i) → P (length keys)
  at_end P i past = subst P (get_or_past (keys_from keys e) i (length keys) past)

-- Choices of rows in lexicographic order, and how often each stands among them.
use Rattle.std.proofs.Common.{ℕ, zero, suc, Bool, true, false, cond, List, [], ◌∷◌, ◌++◌, Some, ◌≡◌, ◌<◌, ◌≤◌, ◌+◌, ◌==◌, ◌&&◌, inl, inr, map, filter, length, refl, sym, ap, ◌∙◌, arith}
use Rattle.std.specs.Prelude.{nat_lt}
use Rattle.std.specs.List.{flat_map, range_with_len}
use Rattle.std.specs.Ordering.{is_lt, nat_cmp, ordering_then}
use Rattle.std.specs.declared.cmp.Ordering.TheVariants.{Equal, Greater}
use Rattle.std.specs.Cmp.{nat_cmp_is}
use Rattle.std.specs.Cmp.Lexicographic.{slice_cmp}
use Rattle.std.proofs.lemmas.Bool.{cases_eq, cases_order, eq-eqb, ne_eqb, ltb-false, ltb-true, lt-ltb, and_parts, and_from}
use Rattle.cq_theory.specs.Canonical.{below}
use Rattle.cq_query.specs.Answers.{tuples, IsTuple}
use Rattle.cq_query.proofs.Answering.{IsIn, no_member, later, cases_in, in_either, from_longer}
use Rattle.cq_eval.proofs.Counted.{same, one_if, times, times_append, is_before, Rises, is_same}

-- what is left of a list that rises rises
in_either_way : (y x : List ℕ) (kept l : List (List ℕ)) (b : Bool) → IsIn y (cond b (x ∷ kept) kept) → (IsIn y kept → IsIn y l) → IsIn y (x ∷ l)
in_either_way y x kept l true i rest = cases_in (IsIn y (x ∷ l)) y x kept i (λ is. (0, ap (λ z. Some z) is)) (λ j. later y x l (rest j))
in_either_way y x kept l false i rest = later y x l (rest i)

pub in_filter : (p : List ℕ → Bool) (y : List ℕ) (l : List (List ℕ)) → IsIn y (filter p l) → IsIn y l
in_filter p y [] h = absurd (no_member y h)
in_filter p y (x ∷ l) h = in_either_way y x (filter p l) l (p x) h (λ i. in_filter p y l i)

rises_either_way : (x : List ℕ) (kept l : List (List ℕ)) (b : Bool) → ((y : List ℕ) → IsIn y l → is_before y x ≡ false) → ((y : List ℕ) → IsIn y kept → IsIn y l) → Rises kept → Rises (cond b (x ∷ kept) kept)
rises_either_way x kept l true up some rest = (λ y i. up y (some y i), rest)
rises_either_way x kept l false up some rest = rest

pub filter_rises : (p : List ℕ → Bool) (l : List (List ℕ)) → Rises l → Rises (filter p l)
filter_rises p [] up = tt
filter_rises p (x ∷ l) up = rises_either_way x (filter p l) l (p x) up.0 (λ y i. in_filter p y l i) (filter_rises p l up.1)

append_rises : (l s : List (List ℕ)) → Rises l → Rises s → ((x y : List ℕ) → IsIn x l → IsIn y s → is_before y x ≡ false) → Rises (l ++ s)
append_rises [] s up down apart = down
append_rises (x ∷ l) s up down apart = (
  λ y i. in_either (is_before y x ≡ false) y l s i (up.0 y) (apart x y (0, refl)),
  append_rises l s up.1 down (λ z y i j. apart z y (later z x l i) j),
)

equal_heads : (r : ℕ) → nat_cmp r r ≡ Equal
equal_heads r = sym (nat_cmp_is r r Equal refl)

greater_heads : (r s : ℕ) → s < r → nat_cmp r s ≡ Greater
greater_heads r s h = sym (nat_cmp_is r s Greater h)

longer_rises : (r : ℕ) (l : List (List ℕ)) → Rises l → Rises (map (λ rows. r ∷ rows) l)
longer_rises r [] up = tt
longer_rises r (x ∷ l) up = (
  λ y i. from_longer (is_before y (r ∷ x) ≡ false) r y l i (λ tail is j.
      ap (λ z. is_before z (r ∷ x)) is ∙ ap (λ o. is_lt (ordering_then o (slice_cmp nat_cmp tail x))) (equal_heads r) ∙ up.0 tail j),
  longer_rises r l up.1,
)

module _ (rest : List (List ℕ)) (up : Rises rest) where
  abbrev longer : ℕ → List (List ℕ)
  longer row = map (λ rows. row ∷ rows) rest

  -- what begins with a later row comes later
  begins_later : (s n r : ℕ) (x y : List ℕ) → r < s → IsIn y (flat_map longer (range_with_len s n)) → is_before y (r ∷ x) ≡ false
  begins_later s zero r x y less h = absurd (no_member y h)
  begins_later s (suc n) r x y less h = in_either (is_before y (r ∷ x) ≡ false) y (longer s) (flat_map longer (range_with_len (s + 1) n)) h
      (λ i. from_longer (is_before y (r ∷ x) ≡ false) s y rest i (λ tail is j.
      ap (λ z. is_before z (r ∷ x)) is ∙ ap (λ o. is_lt (ordering_then o (slice_cmp nat_cmp tail x))) (greater_heads s r less)))
      (λ i. begins_later (s + 1) n r x y (omega (arith, less)) i)

  all_rise : (s n : ℕ) → Rises (flat_map longer (range_with_len s n))
  all_rise s zero = tt
  all_rise s (suc n) = append_rises (longer s) (flat_map longer (range_with_len (s + 1) n)) (longer_rises s rest up) (all_rise (s + 1) n)
      (λ x y i j. from_longer (is_before y x ≡ false) s x rest i (λ tail is k.
      ap (λ z. is_before y z) is ∙ begins_later (s + 1) n s tail y (omega arith) j))

pub tuples_rise : (counts : List ℕ) → Rises (tuples counts)
tuples_rise [] = (λ y i. absurd (no_member y i), tt)
tuples_rise (count ∷ counts) = all_rise (tuples counts) (tuples_rise counts) 0 count

-- all choices are as long
longer_long : (rest : List (List ℕ)) (size : ℕ) → ((x : List ℕ) → IsIn x rest → length x ≡ size) → (s n : ℕ) (x : List ℕ) → IsIn x (flat_map (λ row. map (λ rows. row ∷ rows) rest) (range_with_len s n)) → length x ≡ suc size
longer_long rest size each s zero x i = absurd (no_member x i)
longer_long rest size each s (suc n) x i =
    in_either (length x ≡ suc size) x (map (λ rows. s ∷ rows) rest) (flat_map (λ row. map (λ rows. row ∷ rows) rest) (range_with_len (s + 1) n)) i
    (λ j. from_longer (length x ≡ suc size) s x rest j (λ tail is k. ap length is ∙ ap suc (each tail k)))
    (λ j. longer_long rest size each (s + 1) n x j)

pub tuple_long : (counts x : List ℕ) → IsIn x (tuples counts) → length x ≡ length counts
tuple_long [] x h = cases_in (length x ≡ 0) x [] [] h (λ is. ap length (sym is)) (λ rest. absurd (no_member x rest))
tuple_long (count ∷ counts) x h = longer_long (tuples counts) (length counts) (λ tail i. tuple_long counts tail i) 0 count x h

-- a choice stands once among all, and what is none not at all
abbrev pub is_tuple : List ℕ → List ℕ → Bool
is_tuple [] [] = true
is_tuple (row ∷ rows) (count ∷ counts) = nat_lt row count && is_tuple rows counts
is_tuple _ _ = false

one_more : (r s : ℕ) (x : List ℕ) (l : List (List ℕ)) → times (r ∷ x) (map (λ rows. s ∷ rows) l) ≡ cond (r == s) (times x l) 0
one_more r s x [] = by (r == s)
  where
    by : (b : Bool) → ◌≡◌ {A = ℕ} 0 (cond b 0 0)
    by true = refl
    by false = refl
one_more r s x (y ∷ l) = by (r == s) (same x y) (one_more r s x l)
  where
    by : (b c : Bool) → times (r ∷ x) (map (λ rows. s ∷ rows) l) ≡ cond b (times x l) 0 → one_if (b && c) + times (r ∷ x) (map (λ rows. s ∷ rows) l) ≡ cond b (one_if c + times x l) 0
    by true c is = ap (λ n. one_if c + n) is
    by false c is = omega (arith, is)

none_more : (s : ℕ) (l : List (List ℕ)) → times [] (map (λ rows. s ∷ rows) l) ≡ 0
none_more s [] = refl
none_more s (y ∷ l) = let rest = none_more s l in omega (arith, rest)

module _ (rest : List (List ℕ)) where
  abbrev begun : ℕ → List (List ℕ)
  begun row = map (λ rows. row ∷ rows) rest

  abbrev from : ℕ → ℕ → List (List ℕ)
  from s n = flat_map begun (range_with_len s n)

  none_begin : (s n : ℕ) → times [] (from s n) ≡ 0
  none_begin s zero = refl
  none_begin s (suc n) =
      let both = times_append [] (begun s) (from (s + 1) n) in
      let one = none_more s rest in
      let others = none_begin (s + 1) n in
      omega (arith, both, one, others)

  begun_other : (s r : ℕ) (x : List ℕ) → (r ≡ s → ⊥) → times (r ∷ x) (begun s) ≡ 0
  begun_other s r x other = one_more r s x rest ∙ ap (λ b. cond b (times x rest) 0) (ne_eqb r s other)

  begun_same : (s r : ℕ) (x : List ℕ) → r ≡ s → times (r ∷ x) (begun s) ≡ times x rest
  begun_same s r x is = one_more r s x rest ∙ ap (λ b. cond b (times x rest) 0) (eq-eqb r s is)

  past : (s n r : ℕ) (x : List ℕ) → r < s → times (r ∷ x) (from s n) ≡ 0
  past s zero r x less = refl
  past s (suc n) r x less =
      let both = times_append (r ∷ x) (begun s) (from (s + 1) n) in
      let one = begun_other s r x (λ is. absurd (omega (arith, is, less))) in
      let others = past (s + 1) n r x (omega (arith, less)) in
      omega (arith, both, one, others)

  within : (s n r : ℕ) (x : List ℕ) → s ≤ r → r < s + n → times (r ∷ x) (from s n) ≡ times x rest
  within s zero r x more less = absurd (omega (arith, more, less))
  within s (suc n) r x more less = elim (cases_eq r s) [
    | inl is ↦
        let both = times_append (r ∷ x) (begun s) (from (s + 1) n) in
        let one = begun_same s r x is in
        let others = past (s + 1) n r x (omega (arith, is)) in
        omega (arith, both, one, others)
    | inr other ↦
        let both = times_append (r ∷ x) (begun s) (from (s + 1) n) in
        let one = begun_other s r x other in
        let others = within (s + 1) n r x (later_one s r more other) (omega (arith, less)) in
        omega (arith, both, one, others)
  ]
    where
      later_one : (s r : ℕ) → s ≤ r → (r ≡ s → ⊥) → s + 1 ≤ r
      later_one s r more other = elim (cases_order r s) [
        | inl is ↦ absurd (other is)
        | inr apart ↦ elim apart [ inl less ↦ absurd (omega (arith, less, more)) | inr above ↦ omega (arith, above) ]
      ]

  beyond : (s n r : ℕ) (x : List ℕ) → s + n ≤ r → times (r ∷ x) (from s n) ≡ 0
  beyond s zero r x less = refl
  beyond s (suc n) r x less =
      let both = times_append (r ∷ x) (begun s) (from (s + 1) n) in
      let one = begun_other s r x (λ is. absurd (omega (arith, is, less))) in
      let others = beyond (s + 1) n r x (omega (arith, less)) in
      omega (arith, both, one, others)

tuple_more : (r count : ℕ) (x : List ℕ) (rest : List (List ℕ)) (c b : Bool) → nat_lt r count ≡ b → times x rest ≡ one_if c → times (r ∷ x) (flat_map (λ row. map (λ rows. row ∷ rows) rest) (below count)) ≡ one_if (b && c)
tuple_more r count x rest c true is known = within rest 0 count r x (omega arith) (let less : r < count = ltb-true r count is in omega (arith, less)) ∙ known
tuple_more r count x rest c false is known = beyond rest 0 count r x (let less = ltb-false r count is in omega (arith, less))

pub tuple_times : (x counts : List ℕ) → times x (tuples counts) ≡ one_if (is_tuple x counts)
tuple_times [] [] = refl
tuple_times (r ∷ x) [] = refl
tuple_times [] (count ∷ counts) = none_begin (tuples counts) 0 count
tuple_times (r ∷ x) (count ∷ counts) = tuple_more r count x (tuples counts) (is_tuple x counts) (nat_lt r count) refl (tuple_times x counts)

pub to_tuple : (x counts : List ℕ) → IsTuple x counts → is_tuple x counts ≡ true
to_tuple [] [] h = refl
to_tuple (r ∷ x) [] h = absurd h
to_tuple [] (count ∷ counts) h = absurd h
to_tuple (r ∷ x) (count ∷ counts) h = and_from (nat_lt r count) (is_tuple x counts) (lt-ltb r count h.0) (to_tuple x counts h.1)

pub from_tuple : (x counts : List ℕ) → is_tuple x counts ≡ true → IsTuple x counts
from_tuple [] [] h = tt
from_tuple (r ∷ x) [] h = cc
from_tuple [] (count ∷ counts) h = cc
from_tuple (r ∷ x) (count ∷ counts) h =
    let parts = and_parts (nat_lt r count) (is_tuple x counts) h in
    (ltb-true r count parts.0, from_tuple x counts parts.1)

-- a filter keeps each member as often as it stood, or not at all
zero_either : (b : Bool) → ◌≡◌ {A = ℕ} 0 (cond b 0 0)
zero_either true = refl
zero_either false = refl

filter_more : (p : List ℕ → Bool) (x y : List ℕ) (kept l : List (List ℕ)) (b c : Bool) → p y ≡ b → same x y ≡ c → times x kept ≡ cond (p x) (times x l) 0
    → times x (cond b (y ∷ kept) kept) ≡ cond (p x) (one_if c + times x l) 0
filter_more p x y kept l true true here is rest =
    let passes : p x ≡ true = ap p (is_same x y is) ∙ here in
    (λ i. one_if (is i) + (rest ∙ ap (λ b. cond b (times x l) 0) passes) i) ∙ sym (ap (λ b. cond b (1 + times x l) 0) passes)
filter_more p x y kept l false true here is rest =
    let fails : p x ≡ false = ap p (is_same x y is) ∙ here in
    rest ∙ ap (λ b. cond b (times x l) 0) fails ∙ sym (ap (λ b. cond b (1 + times x l) 0) fails)
filter_more p x y kept l true false here is rest = (λ i. one_if (is i) + rest i) ∙ over (p x)
  where
    over : (b : Bool) → 0 + cond b (times x l) 0 ≡ cond b (0 + times x l) 0
    over true = refl
    over false = refl
filter_more p x y kept l false false here is rest = rest ∙ over (p x)
  where
    over : (b : Bool) → cond b (times x l) 0 ≡ cond b (0 + times x l) 0
    over true = omega arith
    over false = refl

pub filter_times : (p : List ℕ → Bool) (x : List ℕ) (l : List (List ℕ)) → times x (filter p l) ≡ cond (p x) (times x l) 0
filter_times p x [] = zero_either (p x)
filter_times p x (y ∷ l) = filter_more p x y (filter p l) l (p y) (same x y) refl refl (filter_times p x l)

-- Lists in which each list of rows stands as often: of the same length, and one list where both rise.
use Rattle.std.proofs.Common.{ℕ, zero, suc, Bool, true, false, List, [], ◌∷◌, ◌++◌, ◌≡◌, ◌≤◌, ◌+◌, length, refl, sym, ap, subst, ◌∙◌, arith}
use Rattle.std.specs.Prelude.{nat_eq, IsPermutation}
use Rattle.std.specs.List.{sum_by, remove}
use Rattle.std.specs.Ordering.{is_lt, is_eq, nat_cmp, ordering_reverse}
use Rattle.std.specs.declared.cmp.Ordering.{Ordering}
use Rattle.std.specs.declared.cmp.Ordering.TheVariants.{Less, Equal, Greater}
use Rattle.std.specs.Cmp.Lexicographic.{pointwise, slice_cmp, nat_list_eq_equiv, nat_list_cmp_total, texts_ties, same_text}
use Rattle.std.proofs.lemmas.Option.{slice_get_within, get_or_from_slice_get}
use Rattle.std.proofs.lemmas.List.Sums.{sum_by-cons}
use Rattle.std.proofs.lemmas.List.Sorted.{IsPermutation-remove, length_permutation, sum_by-IsPermutation}
use Rattle.cq_query.proofs.Answering.{IsIn, first, later, no_member, cases_in}

abbrev pub same : List ℕ → List ℕ → Bool
same x y = pointwise nat_eq x y

abbrev pub one_if : Bool → ℕ
one_if true = 1
one_if false = 0

-- how often a list of rows stands among others
abbrev pub times : List ℕ → List (List ℕ) → ℕ
times x [] = 0
times x (y ∷ l) = one_if (same x y) + times x l

pub times_append : (x : List ℕ) (l s : List (List ℕ)) → times x (l ++ s) ≡ times x l + times x s
times_append x [] s = omega arith
times_append x (y ∷ l) s = let rest = times_append x l s in omega (arith, rest)

times_sum : (x : List ℕ) (l : List (List ℕ)) → sum_by (λ y. one_if (same x y)) l ≡ times x l
times_sum x [] = refl
times_sum x (y ∷ l) = sum_by-cons (λ z. one_if (same x z)) y l ∙ ap (λ n. one_if (same x y) + n) (times_sum x l)

pub times_shuffled : (x : List ℕ) (l s : List (List ℕ)) → IsPermutation l s → times x s ≡ times x l
times_shuffled x l s h = sym (times_sum x s) ∙ sum_by-IsPermutation (λ y. one_if (same x y)) l s h ∙ times_sum x l

pub itself : (x : List ℕ) → same x x ≡ true
itself x = nat_list_eq_equiv.refl x

pub is_same : (x y : List ℕ) → same x y ≡ true → x ≡ y
is_same x y h = same_text x y (sym h)

-- what stands among others stands there at least once, and what stands there once is among them
pub some_times : (x : List ℕ) (l : List (List ℕ)) → IsIn x l → 1 ≤ times x l
some_times x [] h = absurd (no_member x h)
some_times x (y ∷ l) h = cases_in (1 ≤ times x (y ∷ l)) x y l h
    (λ is. let one : one_if (same x y) ≡ 1 = ap one_if (ap (same x) is ∙ itself x) in omega (arith, one))
    (λ rest. (let more = some_times x l rest in omega (arith, more)))

among_rest : (x y : List ℕ) (l : List (List ℕ)) (b : Bool) → same x y ≡ b → 1 ≤ one_if b + times x l → (1 ≤ times x l → IsIn x l) → IsIn x (y ∷ l)
among_rest x y l true is h rest = subst (λ z. IsIn x (z ∷ l)) (is_same x y is) (first x l)
among_rest x y l false is h rest = later x y l (rest (omega (arith, h)))

pub among : (x : List ℕ) (l : List (List ℕ)) → 1 ≤ times x l → IsIn x l
among x [] h = absurd (omega (arith, h))
among x (y ∷ l) h = among_rest x y l (same x y) refl h (λ more. among x l more)

-- lists in which each stands as often have one length
pub same_length : (l s : List (List ℕ)) → ((x : List ℕ) → times x l ≡ times x s) → length l ≡ length s
same_length [] [] h = refl
same_length [] (y ∷ s) h = absurd ((let none = h y in let more = some_times y (y ∷ s) (first y s) in omega (arith, none, more)))
same_length (x ∷ l) s h =
    let there : IsIn x s = among x s ((let all = h x in let more = some_times x (x ∷ l) (first x l) in omega (arith, all, more))) in
    let rest : List (List ℕ) = remove s there.0 in
    let shuffled : IsPermutation s (x ∷ rest) = IsPermutation-remove s there.0 x (slice_get_within s there.0 x there.1) (sym (get_or_from_slice_get s there.0 x x there.1)) in
    let shorter : length l ≡ length rest = same_length l rest (λ z. let all = h z in let moved = times_shuffled z s (x ∷ rest) shuffled in omega (arith, all, moved)) in
    ap suc shorter ∙ length_permutation s (x ∷ rest) shuffled

-- no member comes before one that stands in front of it
abbrev pub is_before : List ℕ → List ℕ → Bool
is_before x y = is_lt (slice_cmp nat_cmp x y)

abbrev pub Rises : List (List ℕ) → Type 0
Rises [] = Unit {0}
Rises (x ∷ l) = ((y : List ℕ) → IsIn y l → is_before y x ≡ false) × Rises l

neither : (x y : List ℕ) → is_before x y ≡ false → is_before y x ≡ false → x ≡ y
neither x y h k = is_same x y (texts_ties x y ∙ by (slice_cmp nat_cmp x y) (slice_cmp nat_cmp y x) (nat_list_cmp_total.antisymm x y) h k)
  where
    by : (r s : Ordering) → r ≡ ordering_reverse s → is_lt r ≡ false → is_lt s ≡ false → is_eq r ≡ true
    by Less s is h k = cc
    by Equal s is h k = refl
    by Greater Less is h k = cc
    by Greater Equal is h k = let both : is_eq Greater ≡ is_eq Equal = ap is_eq is in cc
    by Greater Greater is h k = let both : is_lt Greater ≡ is_lt Less = ap is_lt is in cc

first_last : (x y : List ℕ) (l : List (List ℕ)) → Rises (y ∷ l) → IsIn x (y ∷ l) → is_before x y ≡ false
first_last x y l up h = cases_in (is_before x y ≡ false) x y l h
    (λ is. by (slice_cmp nat_cmp x y) (sym (texts_ties x y) ∙ ap (same x) is ∙ itself x))
    (λ rest. up.0 x rest)
  where
    by : (r : Ordering) → is_eq r ≡ true → is_lt r ≡ false
    by Less h = cc
    by Equal h = refl
    by Greater h = refl

pub one_list : (l s : List (List ℕ)) → Rises l → Rises s → ((x : List ℕ) → times x l ≡ times x s) → l ≡ s
one_list [] [] up down h = refl
one_list [] (y ∷ s) up down h = absurd ((let none = h y in let more = some_times y (y ∷ s) (first y s) in omega (arith, none, more)))
one_list (x ∷ l) [] up down h = absurd ((let all = h x in let more = some_times x (x ∷ l) (first x l) in omega (arith, all, more)))
one_list (x ∷ l) (y ∷ s) up down h =
    let there : IsIn x (y ∷ s) = among x (y ∷ s) ((let all = h x in let more = some_times x (x ∷ l) (first x l) in omega (arith, all, more))) in
    let here : IsIn y (x ∷ l) = among y (x ∷ l) ((let none = h y in let more = some_times y (y ∷ s) (first y s) in omega (arith, none, more))) in
    let head : x ≡ y = neither x y (first_last x y s down there) (first_last y x l up here) in
    λ i. head i ∷ one_list l s up.1 down.1 (λ z.
    let alike : one_if (same z x) ≡ one_if (same z y) = ap (λ w. one_if (same z w)) head in
    let all = h z in
    omega (arith, all, alike)) i

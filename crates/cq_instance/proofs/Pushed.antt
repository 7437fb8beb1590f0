-- What loops append, one step on: over the numbers below a count.
use Rattle.std.proofs.Common.{ℕ, zero, suc, List, [], ◌∷◌, ◌++◌, ◌≡◌, ◌<◌, ◌≤◌, ◌+◌, map, take, length, get_or, slice_index, sym, ap, ◌∙◌, append_assoc, arith}
use Rattle.std.specs.Prelude.{replicate, sum}
use Rattle.std.specs.List.{range_with_len, flat_map}
use Rattle.std.proofs.lemmas.List.{append-nil, map-append, replicate_more, take_more}
use Rattle.std.proofs.lemmas.List.Sums.{sum_by_more, sum_by_more_le}
use Rattle.std.proofs.lemmas.List.FromFn.{map-range_with_len_more}
use Rattle.std.proofs.lemmas.Grind.{flat_map-append}
use Rattle.cq_theory.specs.Tables.{Meaning}
use Rattle.cq_theory.specs.Canonical.{below}
use Rattle.cq_instance.specs.declared.standing.Standing.{Standing}
use Rattle.cq_instance.specs.Standing.{meaning}
use Rattle.cq_instance.specs.Numbers.{start_of}

-- one number more
range_more : (s n : ℕ) → range_with_len s (suc n) ≡ range_with_len s n ++ (s + n) ∷ []
range_more s zero = let here : s ≡ s + 0 = omega arith in ap (λ m. m ∷ []) here
range_more s (suc n) = let there : s + 1 + n ≡ s + suc n = omega arith in ap (λ l. s ∷ l) (range_more (s + 1) n ∙ ap (λ m. range_with_len (s + 1) n ++ m ∷ []) there)

pub below_more : (n : ℕ) → below (n + 1) ≡ below n ++ n ∷ []
below_more n =
    let here : 0 + n ≡ n = omega arith in
    let one : n + 1 ≡ suc n = omega arith in
    ap below one ∙ range_more 0 n ∙ ap (λ m. below n ++ m ∷ []) here

-- what a loop over the numbers below a count appends, one step on
pub pushed_below : {X : Type 0} (f : ℕ → List X) (before old new : List X) (n : ℕ) → old ≡ before ++ flat_map f (below n) → new ≡ old ++ f n → new ≡ before ++ flat_map f (below (n + 1))
pushed_below f before old new n are is =
    let last : flat_map f (below (n + 1)) ≡ flat_map f (below n) ++ f n =
    ap (flat_map f) (below_more n) ∙ flat_map-append f (below n) (n ∷ []) ∙ ap (λ l. flat_map f (below n) ++ l) (append-nil (f n)) in
    is ∙ ap (λ l. l ++ f n) are ∙ append_assoc before (flat_map f (below n)) (f n) ∙ ap (λ l. before ++ l) (sym last)

-- one more member of a list, of each of which f gives one
pub mapped_more : {X Y : Type 0} (f : X → Y) (xs : List X) (i : ℕ) (d : X) (before old new : List Y) (y : Y) → i < length xs → old ≡ before ++ map f (take i xs) → y ≡ f (get_or xs i d) → new ≡ old ++ y ∷ []
    → new ≡ before ++ map f (take (i + 1) xs)
mapped_more f xs i d before old new y within are one is =
    is ∙ (λ k. are k ++ one k ∷ []) ∙ append_assoc before (map f (take i xs)) (f (get_or xs i d) ∷ [])
    ∙ ap (λ l. before ++ l) (sym (map-append f (take i xs) (get_or xs i d ∷ [])) ∙ sym (ap (map f) (take_more xs i d within)))

-- one more of the same
pub replicated_more : {X : Type 0} (x : X) (before old new : List X) (n : ℕ) → old ≡ before ++ replicate n x → new ≡ old ++ x ∷ [] → new ≡ before ++ replicate (n + 1) x
replicated_more x before old new n are is = is ∙ ap (λ l. l ++ x ∷ []) are ∙ append_assoc before (replicate n x) (x ∷ []) ∙ ap (λ l. before ++ l) (replicate_more n x)

-- what one generator more stands for
pub standing_more : (f : ℕ → Meaning) (before : List Meaning) (old new : List Standing) (n : ℕ) (x : Standing) → map meaning old ≡ before ++ map f (below n) → new ≡ old ++ x ∷ [] → meaning x ≡ f n
    → map meaning new ≡ before ++ map f (below (n + 1))
standing_more f before old new n x are is stands =
    ap (map meaning) is ∙ map-append meaning old (x ∷ []) ∙ (λ i. are i ++ stands i ∷ []) ∙ append_assoc before (map f (below n)) (f n ∷ [])
    ∙ ap (λ l. before ++ l) (sym (map-range_with_len_more f 0 n n (omega arith)))

-- the first generator of the next entity, and where it ends
pub start_more : (counts : List ℕ) (e : ℕ) → e < length counts → start_of counts (e + 1) ≡ start_of counts e + slice_index counts e
start_more counts e within = sum_by_more (λ m. m) counts e 0 within

pub start_fits : (counts : List ℕ) (e : ℕ) → e < length counts → start_of counts e + slice_index counts e ≤ sum counts
start_fits counts e within = sum_by_more_le (λ m. m) counts e 0 within

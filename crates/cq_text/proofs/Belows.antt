-- Texts for each number below a bound, and for each member of a list.
use Rattle.std.proofs.Common.{ℕ, List, [], ◌∷◌, ◌++◌, ◌+◌, ◌≡◌, ◌<◌, ap, sym, ◌∙◌, arith, append_assoc, get_or, length, take}
use Rattle.std.specs.List.{flat_map}
use Rattle.std.proofs.lemmas.List.{map-id, append-nil, flat_map_more, take_more}
use Rattle.std.proofs.lemmas.List.Concat.{flat_map-append}
use Rattle.std.proofs.lemmas.List.FromFn.{map-range_with_len_more}
use Rattle.cq_theory.specs.Canonical.{below}

-- one more number
pub below_more : (n : ℕ) → below (n + 1) ≡ below n ++ n ∷ []
below_more n =
    sym (map-id (below (n + 1))) ∙ map-range_with_len_more (λ k. k) 0 n n (omega arith) ∙ ap (λ l. l ++ n ∷ []) (map-id (below n))

-- one more number adds its text at the end
pub flat_map-below_more : {A : Type 0} (f : ℕ → List A) (before : List A) (n : ℕ) → (before ++ flat_map f (below n)) ++ f n ≡ before ++ flat_map f (below (n + 1))
flat_map-below_more f before n =
    append_assoc before (flat_map f (below n)) (f n)
    ∙ ap (λ l. before ++ l) (sym (ap (flat_map f) (below_more n) ∙ flat_map-append f (below n) (n ∷ []) ∙ ap (λ l. flat_map f (below n) ++ l) (append-nil (f n))))

-- one more member adds its text at the end
pub flat_map-take_more : {A B : Type 0} (f : A → List B) (before old new : List B) (xs : List A) (i : ℕ) (d : A) → i < length xs → old ≡ before ++ flat_map f (take i xs)
    → new ≡ old ++ f (get_or xs i d) → new ≡ before ++ flat_map f (take (i + 1) xs)
flat_map-take_more f before old new xs i d within are is =
    is ∙ ap (λ l. l ++ f (get_or xs i d)) are ∙ flat_map_more f before (take i xs) (get_or xs i d) ∙ ap (λ l. before ++ flat_map f l) (sym (take_more xs i d within))

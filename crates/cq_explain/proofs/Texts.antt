-- Texts for each member of a list, one member more at a time.
use Rattle.std.proofs.Common.{ℕ, List, [], ◌∷◌, ◌++◌, ◌+◌, ◌≡◌, ◌<◌, map, take, length, get_or, refl, sym, ap, ◌∙◌, append_assoc, arith, codes}
use Rattle.std.specs.List.{enumerate_from, flat_map}
use Rattle.std.proofs.lemmas.List.{append-nil, map-append, take_more, length-take-le}
use Rattle.std.proofs.lemmas.List.Concat.{flat_map-append}
use Rattle.cq_theory.specs.ValueText.{after_commas}

after_commas-append : (xs ys : List (List ℕ)) → after_commas (xs ++ ys) ≡ after_commas xs ++ after_commas ys
after_commas-append [] ys = refl
after_commas-append (x ∷ xs) ys = ap (λ t. codes ", " ++ x ++ t) (after_commas-append xs ys) ∙ sym (append_assoc (codes ", " ++ x) (after_commas xs) (after_commas ys))

-- one argument more
pub after_commas_more : {A : Type 0} (f : A → List ℕ) (xs : List A) (i : ℕ) (d : A) → i < length xs
    → after_commas (map f (take (i + 1) xs)) ≡ after_commas (map f (take i xs)) ++ (codes ", " ++ f (get_or xs i d))
after_commas_more f xs i d within =
    ap (λ l. after_commas (map f l)) (take_more xs i d within)
    ∙ ap after_commas (map-append f (take i xs) (get_or xs i d ∷ []))
    ∙ after_commas-append (map f (take i xs)) (f (get_or xs i d) ∷ [])
    ∙ ap (λ l. after_commas (map f (take i xs)) ++ l) (append-nil (codes ", " ++ f (get_or xs i d)))

enumerate_from-append : {X : Type 0} (s : ℕ) (xs : List X) (x : X) → enumerate_from s (xs ++ x ∷ []) ≡ enumerate_from s xs ++ (s + length xs, x) ∷ []
enumerate_from-append s [] x = let here : s ≡ s + 0 = omega arith in ap (λ n. (n, x) ∷ []) here
enumerate_from-append s (y ∷ ys) x =
    let there : s + 1 + length ys ≡ s + length (y ∷ ys) = omega arith in
    ap (λ l. (s, y) ∷ l) (enumerate_from-append (s + 1) ys x ∙ ap (λ n. enumerate_from (s + 1) ys ++ (n, x) ∷ []) there)

-- one numbered member more adds its text at the end
pub numbered_more : {X : Type 0} (f : ℕ × X → List ℕ) (before old new : List ℕ) (xs : List X) (i : ℕ) (x : X) → i < length xs → x ≡ get_or xs i x
    → old ≡ before ++ flat_map f (enumerate_from 0 (take i xs)) → new ≡ old ++ f (i, x) → new ≡ before ++ flat_map f (enumerate_from 0 (take (i + 1) xs))
numbered_more {X = X} f before old new xs i x within at are is =
    let here : 0 + length (take i xs) ≡ i = omega (arith, length-take-le i xs (omega (arith, within))) in
    let longer : enumerate_from 0 (take (i + 1) xs) ≡ enumerate_from 0 (take i xs) ++ (i, x) ∷ [] =
    ap (enumerate_from 0) (take_more xs i x within)
    ∙ enumerate_from-append 0 (take i xs) (get_or xs i x)
    ∙ ap (λ (p : ℕ × X). enumerate_from 0 (take i xs) ++ p ∷ []) (λ k. (here k, sym at k)) in
    let told : flat_map f (enumerate_from 0 (take i xs)) ++ f (i, x) ≡ flat_map f (enumerate_from 0 (take (i + 1) xs)) =
    sym (ap (flat_map f) longer ∙ flat_map-append f (enumerate_from 0 (take i xs)) ((i, x) ∷ [])
    ∙ ap (λ l. flat_map f (enumerate_from 0 (take i xs)) ++ l) (append-nil (f (i, x)))) in
    is ∙ ap (λ l. l ++ f (i, x)) are ∙ append_assoc before (flat_map f (enumerate_from 0 (take i xs))) (f (i, x)) ∙ ap (λ l. before ++ l) told

-- One member more of a list adds what it gives at the end.
use Rattle.std.proofs.Common.{ℕ, List, [], ◌∷◌, ◌++◌, ◌+◌, ◌≡◌, ◌<◌, ap, sym, ◌∙◌, append_assoc, get_or, length, map, take}
use Rattle.std.specs.List.{flat_map}
use Rattle.std.proofs.lemmas.List.{flat_map_more, map-append, take_more}

pub more_parts : {A B : Type 0} (f : A → List B) (before old new : List B) (xs : List A) (i : ℕ) (d : A) → i < length xs → old ≡ before ++ flat_map f (take i xs)
    → new ≡ old ++ f (get_or xs i d) → new ≡ before ++ flat_map f (take (i + 1) xs)
more_parts f before old new xs i d within are is =
    is ∙ ap (λ l. l ++ f (get_or xs i d)) are ∙ flat_map_more f before (take i xs) (get_or xs i d) ∙ ap (λ l. before ++ flat_map f l) (sym (take_more xs i d within))

pub one_part : {A B : Type 0} (f : A → B) (before old new : List B) (xs : List A) (i : ℕ) (d : A) → i < length xs → old ≡ before ++ map f (take i xs)
    → new ≡ old ++ f (get_or xs i d) ∷ [] → new ≡ before ++ map f (take (i + 1) xs)
one_part f before old new xs i d within are is =
    is ∙ ap (λ l. l ++ f (get_or xs i d) ∷ []) are ∙ append_assoc before (map f (take i xs)) (f (get_or xs i d) ∷ [])
    ∙ ap (λ l. before ++ l) (sym (ap (map f) (take_more xs i d within) ∙ map-append f (take i xs) (get_or xs i d ∷ [])))

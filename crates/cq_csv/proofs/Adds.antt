-- Fields that are added one after the other.
use Rattle.std.proofs.Common.{ℕ, List, [], ◌∷◌, ◌++◌, ◌+◌, ◌≡◌, ◌<◌, map, take, length, get_or, sym, ap, ◌∙◌, append_assoc}
use Rattle.std.proofs.lemmas.List.{append-nil, map-append, take_more}
use Rattle.csv.specs.Records.{Row, fields_of, partial_of}
use Rattle.cq_csv.specs.Records.{AddsFields}

pub adds_nothing : (fields : Row) → partial_of fields ≡ [] → AddsFields fields fields []
adds_nothing fields whole = record { added = sym (append-nil (fields_of fields)); whole = whole }

pub adds_then : (first second third : Row) (xs ys : List (List ℕ)) → AddsFields first second xs → AddsFields second third ys → AddsFields first third (xs ++ ys)
adds_then first second third xs ys here there = record {
  added = there.added ∙ ap (λ l. l ++ ys) here.added ∙ append_assoc (fields_of first) xs ys;
  whole = there.whole;
}

-- a field for one member more
pub adds_more : {X : Type 0} (f : X → List ℕ) (xs : List X) (i : ℕ) (d : X) (first second third : Row) → i < length xs
    → AddsFields first second (map f (take i xs)) → AddsFields second third (f (get_or xs i d) ∷ []) → AddsFields first third (map f (take (i + 1) xs))
adds_more f xs i d first second third within here there =
    let all = adds_then first second third (map f (take i xs)) (f (get_or xs i d) ∷ []) here there in
    let longer : map f (take i xs) ++ f (get_or xs i d) ∷ [] ≡ map f (take (i + 1) xs) =
    sym (ap (map f) (take_more xs i d within) ∙ map-append f (take i xs) (get_or xs i d ∷ [])) in
    record { added = all.added ∙ ap (λ l. fields_of first ++ l) longer; whole = all.whole }

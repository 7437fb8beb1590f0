-- Records that are written one after the other.
use Rattle.std.proofs.Common.{ℕ, List, [], ◌∷◌, ◌++◌, ◌+◌, ◌≡◌, ◌<◌, map, take, length, get_or, subst, sym, ap, ◌∙◌, append_assoc, arith}
use Rattle.std.proofs.lemmas.List.{map-append, take_more}
use Rattle.std.proofs.lemmas.List.FromFn.{map-range_with_len_more}
use Rattle.std.specs.declared.alloc.Global.{Global}
use Rattle.std.specs.declared.vec.Vec.{Vec}
use Rattle.csv.specs.Records.{Row, fields_of}
use Rattle.csv.specs.declared.writer.Writer.{Writer}
use Rattle.cq_theory.specs.Canonical.{below}
use Rattle.cq_csv.specs.Records.{AddsFields, HasWritten}

-- the fields of a record that was empty before
pub filled : (empty full : Row) (fields : List (List ℕ)) → fields_of empty ≡ [] → AddsFields empty full fields → fields_of full ≡ fields
filled empty full fields none adds = adds.added ∙ ap (λ l. l ++ fields) none

-- the record for one number more
pub written_below : (writer : Writer (Vec ℕ Global)) (before : List (List (List ℕ))) (f : ℕ → List (List ℕ)) (n : ℕ) (fields : List (List ℕ)) → fields ≡ f n
    → HasWritten writer ((before ++ map f (below n)) ++ fields ∷ []) → HasWritten writer (before ++ map f (below (n + 1)))
written_below writer before f n fields is =
    subst (HasWritten writer)
    (append_assoc before (map f (below n)) (fields ∷ []) ∙ ap (λ r. before ++ (map f (below n) ++ r ∷ [])) is
    ∙ ap (λ l. before ++ l) (sym (map-range_with_len_more f 0 n n (omega arith))))

-- the record for one member more
pub written_take : {X : Type 0} (writer : Writer (Vec ℕ Global)) (before : List (List (List ℕ))) (f : X → List (List ℕ)) (xs : List X) (i : ℕ) (x : X) (fields : List (List ℕ)) → i < length xs
    → x ≡ get_or xs i x → fields ≡ f x → HasWritten writer ((before ++ map f (take i xs)) ++ fields ∷ []) → HasWritten writer (before ++ map f (take (i + 1) xs))
written_take writer before f xs i x fields within at is =
    subst (HasWritten writer)
    (append_assoc before (map f (take i xs)) (fields ∷ []) ∙ ap (λ r. before ++ (map f (take i xs) ++ r ∷ [])) (is ∙ ap f at)
    ∙ ap (λ l. before ++ l) (sym (ap (map f) (take_more xs i x within) ∙ map-append f (take i xs) (get_or xs i x ∷ []))))

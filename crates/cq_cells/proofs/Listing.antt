-- Lists of faults that are added one behind the other.
use Rattle.std.proofs.Common.{ℕ, zero, suc, List, [], ◌∷◌, ◌++◌, ◌≤◌, ◌≡◌, Some, length, map, take, refl, sym, ap, ◌∙◌, append_assoc, arith}
use Rattle.std.proofs.lemmas.List.{append-nil, length-map, map-append, take-append-le}
use Rattle.cq_cells.specs.declared.faults.Fault.{Fault}
use Rattle.cq_cells.specs.Found.{Found}
use Rattle.cq_cells.specs.Shown.{Lists, listed, most_faults, shown}

pub take_front : {X : Type 0} (k : ℕ) (xs ys : List X) → take k (take k xs ++ ys) ≡ take k (xs ++ ys)
take_front zero xs ys = refl
take_front (suc k) [] ys = refl
take_front (suc k) (x ∷ xs) ys = ap (λ l. x ∷ l) (take_front k xs ys)

-- two ways to the same front
pub take_same : {X : Type 0} (k : ℕ) (xs ys zs : List X) → take k xs ≡ take k ys → take k (xs ++ zs) ≡ take k (ys ++ zs)
take_same k xs ys zs same = sym (take_front k xs zs) ∙ ap (λ l. take k (l ++ zs)) same ∙ take_front k ys zs

pub lists_none : (old : List Fault) → Lists old old (λ name. [])
lists_none old = λ name. ap (take most_faults) (sym (append-nil (map (shown name) old)))

pub lists_then : (a b c : List Fault) (f g : (ℕ → List ℕ) → List Found) → Lists a b f → Lists b c g → Lists a c (λ name. f name ++ g name)
lists_then a b c f g first second = λ name.
    second name ∙ take_same most_faults (map (shown name) b) (map (shown name) a ++ f name) (g name) (first name)
    ∙ ap (take most_faults) (append_assoc (map (shown name) a) (f name) (g name))

pub lists_same : (old new : List Fault) (f g : (ℕ → List ℕ) → List Found) → ((name : ℕ → List ℕ) → f name ≡ g name) → Lists old new f → Lists old new g
lists_same old new f g same lists = λ name. lists name ∙ ap (λ l. take most_faults (map (shown name) old ++ l)) (same name)

pub lists_full : (old : List Fault) (found : (ℕ → List ℕ) → List Found) → most_faults ≤ length old → Lists old old found
lists_full old found full = λ name.
    let enough : most_faults ≤ length (map (shown name) old) = omega (arith, length-map old (shown name)) in
    sym (take-append-le most_faults (map (shown name) old) (found name) enough)

pub lists_one : (old new : List Fault) (fault : Fault) → new ≡ old ++ fault ∷ [] → Lists old new (λ name. listed name (Some fault))
lists_one old new fault is = λ name. ap (λ l. take most_faults (map (shown name) l)) is ∙ ap (take most_faults) (map-append (shown name) old (fault ∷ []))

-- a list to which a fault was added isn't empty
some_first : {X : Type 0} (k : ℕ) (xs : List X) (y : X) → [] ≡ take (suc k) (xs ++ y ∷ []) → ⊥
some_first k [] y is = cc is
some_first k (x ∷ xs) y is = cc is

pub lists_some : (old new : List Fault) (found : (ℕ → List ℕ) → Found) → Lists old new (λ name. found name ∷ []) → new ≡ [] → ⊥
lists_some old new found lists none =
    let name : ℕ → List ℕ = λ n. [] in
    some_first 99 (map (shown name) old) (found name) (ap (λ l. take most_faults (map (shown name) l)) (sym none) ∙ lists name)

-- what is empty was empty before
empty_front : {X : Type 0} (k : ℕ) (xs ys : List X) → [] ≡ take (suc k) (xs ++ ys) → xs ≡ []
empty_front k [] ys is = refl
empty_front k (x ∷ xs) ys is = cc is

none_shown : (name : ℕ → List ℕ) (faults : List Fault) → map (shown name) faults ≡ [] → faults ≡ []
none_shown name [] is = refl
none_shown name (x ∷ xs) is = cc is

pub lists_was_empty : (old new : List Fault) (found : (ℕ → List ℕ) → List Found) → Lists old new found → new ≡ [] → old ≡ []
lists_was_empty old new found lists none =
    let name : ℕ → List ℕ = λ n. [] in
    none_shown name old (empty_front 99 (map (shown name) old) (found name) (ap (λ l. take most_faults (map (shown name) l)) (sym none) ∙ lists name))

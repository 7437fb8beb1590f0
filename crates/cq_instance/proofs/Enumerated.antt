-- Lists that are mapped with the numbers of their members.
use Rattle.std.proofs.Common.{ℕ, zero, suc, List, [], ◌∷◌, ◌++◌, Some, ◌≡◌, ◌<◌, ◌+◌, map, take, length, get_or, slice_index_or, ap, ◌∙◌, arith}
use Rattle.std.specs.Prelude.{slice_get}
use Rattle.std.specs.List.{enumerate_from}
use Rattle.std.proofs.lemmas.List.{take_more, map-append, length-take-le}
use Rattle.std.proofs.lemmas.Option.{get_or_from_slice_get}
use Rattle.cq_instance.proofs.Lists.{get-map}

pub get-enumerate_from : {X : Type 0} (s : ℕ) (xs : List X) (n : ℕ) (x : X) → slice_get xs n ≡ Some x → slice_get (enumerate_from s xs) n ≡ Some (s + n, x)
get-enumerate_from s [] n x h = cc
get-enumerate_from s (y ∷ ys) zero x h = let here : s ≡ s + 0 = omega arith in let same : y ≡ x = cc in λ i. Some (here i, same i)
get-enumerate_from s (y ∷ ys) (suc n) x h = let there : s + 1 + n ≡ s + suc n = omega arith in get-enumerate_from (s + 1) ys n x h ∙ ap (λ k. Some (k, x)) there

pub get-enumerate : {X : Type 0} (xs : List X) (n : ℕ) (x : X) → slice_get xs n ≡ Some x → slice_get (enumerate_from 0 xs) n ≡ Some (n, x)
get-enumerate xs n x h = let here : 0 + n ≡ n = omega arith in get-enumerate_from 0 xs n x h ∙ ap (λ k. Some (k, x)) here

-- what f gives at the number and the member
pub numbered_at : {X Y : Type 0} (f : ℕ × X → Y) (xs : List X) (n : ℕ) (x : X) (d : Y) → slice_get xs n ≡ Some x → slice_index_or (map f (enumerate_from 0 xs)) n d ≡ f (n, x)
numbered_at f xs n x d h = get_or_from_slice_get (map f (enumerate_from 0 xs)) n (f (n, x)) d (get-map f (enumerate_from 0 xs) n (n, x) (get-enumerate xs n x h))

enumerate_from-append : {X : Type 0} (s : ℕ) (xs : List X) (x : X) → enumerate_from s (xs ++ x ∷ []) ≡ enumerate_from s xs ++ (s + length xs, x) ∷ []
enumerate_from-append s [] x = let here : s ≡ s + 0 = omega arith in ap (λ n. (n, x) ∷ []) here
enumerate_from-append s (y ∷ ys) x =
    let there : s + 1 + length ys ≡ s + length (y ∷ ys) = omega arith in
    ap (λ l. (s, y) ∷ l) (enumerate_from-append (s + 1) ys x ∙ ap (λ n. enumerate_from (s + 1) ys ++ (n, x) ∷ []) there)

-- one further member, numbered
pub numbered_more : {X : Type 0} (xs : List X) (i : ℕ) (d : X) → i < length xs → enumerate_from 0 (take (i + 1) xs) ≡ enumerate_from 0 (take i xs) ++ (i, get_or xs i d) ∷ []
numbered_more xs i d within =
    let so_far : length (take i xs) ≡ i = length-take-le i xs (omega arith) in
    let here : 0 + length (take i xs) ≡ i = omega (arith, so_far) in
    ap (enumerate_from 0) (take_more xs i d within)
    ∙ enumerate_from-append 0 (take i xs) (get_or xs i d) ∙ ap (λ n. enumerate_from 0 (take i xs) ++ (n, get_or xs i d) ∷ []) here

-- one further member with its number
pub enumerated_more : {X Y : Type 0} (f : ℕ × X → Y) (xs : List X) (i : ℕ) (d : X) → i < length xs
    → map f (enumerate_from 0 (take (i + 1) xs)) ≡ map f (enumerate_from 0 (take i xs)) ++ f (i, get_or xs i d) ∷ []
enumerated_more f xs i d within =
    ap (map f) (numbered_more xs i d within)
    ∙ map-append f (enumerate_from 0 (take i xs)) ((i, get_or xs i d) ∷ [])

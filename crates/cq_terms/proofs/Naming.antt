-- Generators that are named one after another, and the names of the first ones.
use Rattle.std.proofs.Common.{ℕ, zero, suc, List, [], ◌∷◌, ◌++◌, Some, ◌≡◌, ◌<◌, ◌≤◌, ◌+◌, map, take, length, get_or, refl, sym, ap, ◌∙◌, arith}
use Rattle.std.specs.Prelude.{slice_get, codes, decimal, All}
use Rattle.std.specs.List.{enumerate_from}
use Rattle.std.proofs.lemmas.List.{take_more, map-append, length-take-le, length-map}
use Rattle.std.proofs.lemmas.List.FromFn.{length-enumerate_from}
use Rattle.cq_base.specs.declared.name.Name.{Name}
use Rattle.cq_theory.specs.declared.presentation.Sort.{Sort}
use Rattle.cq_theory.specs.Canonical.{named}
use Rattle.cq_theory.specs.Sorts.{Generators}
use Rattle.cq_terms.specs.Generators.{names_of}

enumerate_from-append : {X : Type 0} (s : ℕ) (xs : List X) (x : X) → enumerate_from s (xs ++ x ∷ []) ≡ enumerate_from s xs ++ (s + length xs, x) ∷ []
enumerate_from-append s [] x = let here : s ≡ s + 0 = omega arith in ap (λ n. (n, x) ∷ []) here
enumerate_from-append s (y ∷ ys) x =
    let there : s + 1 + length ys ≡ s + length (y ∷ ys) = omega arith in
    ap (λ l. (s, y) ∷ l) (enumerate_from-append (s + 1) ys x ∙ ap (λ n. enumerate_from (s + 1) ys ++ (n, x) ∷ []) there)

abbrev generator_at : ℕ × Sort → Name × Sort
generator_at p = (codes "g" ++ decimal p.0, p.1)

-- one generator more
pub named_more : (sorts : List Sort) (i n : ℕ) (d : Sort) (old new : List (Name × Sort)) → i < length sorts → n ≡ 1 + i → old ≡ named (take i sorts)
    → new ≡ old ++ (codes "g" ++ decimal n, get_or sorts i d) ∷ [] → new ≡ named (take (i + 1) sorts)
named_more sorts i n d old new within number are is =
    let so_far : length (take i sorts) ≡ i = length-take-le i sorts (omega arith) in
    let last : n ≡ 1 + length (take i sorts) = omega arith in
    is ∙ (λ j. are j ++ generator_at (last j, get_or sorts i d) ∷ [])
    ∙ sym (map-append generator_at (enumerate_from 1 (take i sorts)) ((1 + length (take i sorts), get_or sorts i d) ∷ []))
    ∙ ap (map generator_at) (sym (enumerate_from-append 1 (take i sorts) (get_or sorts i d))) ∙ ap named (sym (take_more sorts i d within))

pub named_length : (sorts : List Sort) → length (named sorts) ≡ length sorts
named_length sorts = length-map (enumerate_from 1 sorts) generator_at ∙ length-enumerate_from 1 sorts

-- a named generator has its sort, and there are no others
named_at : (s : ℕ) (sorts : List Sort) (n : ℕ) (sort : Sort) → slice_get sorts n ≡ Some sort
    → (g : Name × Sort) × (slice_get (map generator_at (enumerate_from s sorts)) n ≡ Some g) × (g.1 ≡ sort)
named_at s [] n sort h = cc
named_at s (x ∷ xs) zero sort h = let same : x ≡ sort = cc in (generator_at (s, x), refl, same)
named_at s (x ∷ xs) (suc n) sort h = named_at (s + 1) xs n sort h

named_of : (s : ℕ) (sorts : List Sort) (n : ℕ) (g : Name × Sort) → slice_get (map generator_at (enumerate_from s sorts)) n ≡ Some g → slice_get sorts n ≡ Some g.1
named_of s [] n g h = cc
named_of s (x ∷ xs) zero g h = let same : generator_at (s, x) ≡ g = cc in ap (λ (y : Name × Sort). Some y.1) same
named_of s (x ∷ xs) (suc n) g h = named_of (s + 1) xs n g h

pub has_sort : (sorts : List Sort) (n : ℕ) (sort : Sort) → slice_get sorts n ≡ Some sort → (g : Name × Sort) × (slice_get (named sorts) n ≡ Some g) × (g.1 ≡ sort)
has_sort sorts n sort h = named_at 1 sorts n sort h

pub sort_of_named : (sorts : List Sort) (n : ℕ) (g : Name × Sort) → slice_get (named sorts) n ≡ Some g → slice_get sorts n ≡ Some g.1
sort_of_named sorts n g h = named_of 1 sorts n g h

-- the names of the first generators
pub names_more : (G : Generators) (k : ℕ) (g : Name × Sort) → k < length G → g ≡ get_or G k g → names_of (take (k + 1) G) ≡ names_of (take k G) ++ g.0 ∷ []
names_more G k g within is =
    ap names_of (take_more G k g within) ∙ map-append (λ (x : Name × Sort). x.0) (take k G) (get_or G k g ∷ [])
    ∙ ap (λ (x : Name × Sort). names_of (take k G) ++ x.0 ∷ []) (sym is)

pub few_names : (G : Generators) (k : ℕ) → length (names_of (take k G)) ≤ length G
few_names G zero = omega arith
few_names [] (suc k) = omega arith
few_names (g ∷ G) (suc k) = let rest : length (names_of (take k G)) ≤ length G = few_names G k in omega arith

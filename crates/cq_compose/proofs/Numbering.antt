-- The names x1, x2, .. are distinct.
use Rattle.std.proofs.Common.{ℕ, Bool, true, false, List, [], ◌∷◌, ◌++◌, ◌≡◌, ◌<◌, ◌+◌, ◌^◌, map, take, length, get_or, refl, sym, ap, ◌∙◌, arith}
use Rattle.std.specs.Prelude.{codes, decimal}
use Rattle.std.specs.List.{enumerate_from, IsDistinct, AllByRecursion}
use Rattle.std.specs.Cmp.Lexicographic.{same_text}
use Rattle.std.proofs.lemmas.Fmt.{decimal_injective}
use Rattle.std.proofs.lemmas.List.{take_more, map-append, length-take-le}
use Rattle.cq_base.specs.declared.name.Name.{Name}
use Rattle.cq_base.specs.Names.{same_name, AreDistinct}
use Rattle.cq_compose.specs.Composite.{numbered}

abbrev name_of : ℕ → Name
name_of n = codes "x" ++ decimal n

abbrev variable_of : ℕ × ℕ → Name × ℕ
variable_of p = (name_of p.0, p.1)

-- these entities as variables, numbered from s
abbrev pub numbered_from : ℕ → List ℕ → List (Name × ℕ)
numbered_from s entities = map (λ p. (codes "x" ++ decimal p.0, p.1)) (enumerate_from s entities)

abbrev names_of : List (Name × ℕ) → List Name
names_of variables = map (λ v. v.0) variables

other_name : (m n : ℕ) → m < 2 ^ 63 → n < 2 ^ 63 → (m ≡ n → ⊥) → same_name (name_of m) (name_of n) ≡ false
other_name m n small fits other = at_test (same_name (name_of m) (name_of n)) refl
  where
    at_test : (b : Bool) → same_name (name_of m) (name_of n) ≡ b → same_name (name_of m) (name_of n) ≡ false
    at_test false e = e
    at_test true e =
        let texts : 120 ∷ decimal m ≡ 120 ∷ decimal n = same_text (name_of m) (name_of n) (sym e) in
        let same : decimal m ≡ decimal n = cc in
        absurd (other (decimal_injective m n (omega arith) (omega arith) same))

all_other : (n s : ℕ) (entities : List ℕ) → n < s → s + length entities < 2 ^ 63 → AllByRecursion (λ y. same_name (name_of n) y ≡ false) (names_of (numbered_from s entities))
all_other n s [] before small = tt
all_other n s (e ∷ entities) before small = (other_name n s (omega arith) (omega arith) (λ same. omega arith), all_other n (s + 1) entities (omega arith) (omega arith))

pub numbered_distinct : (s : ℕ) (entities : List ℕ) → s + length entities < 2 ^ 63 → AreDistinct (names_of (numbered_from s entities))
unfolding IsDistinct
numbered_distinct s [] small = tt
numbered_distinct s (e ∷ entities) small = (all_other s (s + 1) entities (omega arith) (omega arith), numbered_distinct (s + 1) entities (omega arith))

enumerate_from-append : {X : Type 0} (s : ℕ) (xs : List X) (x : X) → enumerate_from s (xs ++ x ∷ []) ≡ enumerate_from s xs ++ (s + length xs, x) ∷ []
enumerate_from-append s [] x = let here : s ≡ s + 0 = omega arith in ap (λ n. (n, x) ∷ []) here
enumerate_from-append s (y ∷ ys) x =
    let there : s + 1 + length ys ≡ s + length (y ∷ ys) = omega arith in
    ap (λ l. (s, y) ∷ l) (enumerate_from-append (s + 1) ys x ∙ ap (λ n. enumerate_from (s + 1) ys ++ (n, x) ∷ []) there)

-- one variable more
pub numbered_more : (entities : List ℕ) (i n : ℕ) (d : ℕ) (old new : List (Name × ℕ)) → i < length entities → n ≡ 1 + i → old ≡ numbered (take i entities)
    → new ≡ old ++ (codes "x" ++ decimal n, get_or entities i d) ∷ [] → new ≡ numbered (take (i + 1) entities)
numbered_more entities i n d old new within number are is =
    let so_far : length (take i entities) ≡ i = length-take-le i entities (omega arith) in
    let last : n ≡ 1 + length (take i entities) = omega arith in
    is ∙ (λ j. are j ++ variable_of (last j, get_or entities i d) ∷ [])
    ∙ sym (map-append variable_of (enumerate_from 1 (take i entities)) ((1 + length (take i entities), get_or entities i d) ∷ []))
    ∙ ap (map variable_of) (sym (enumerate_from-append 1 (take i entities) (get_or entities i d))) ∙ ap numbered (sym (take_more entities i d within))

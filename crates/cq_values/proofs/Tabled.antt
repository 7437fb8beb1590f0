-- Names and their numbers.
use Rattle.std.proofs.Common.{ℕ, zero, suc, true, false, List, [], ◌∷◌, Option, Some, None, ◌≡◌, map, get_or, refl, sym, ap, subst, ◌∙◌}
use Rattle.std.specs.Prelude.{slice_get, option_map, cond, position}
use Rattle.std.specs.List.{IsDistinct, AllByRecursion}
use Rattle.std.specs.Cmp.Lexicographic.{nat_list_eq_equiv, same_text}
use Rattle.std.proofs.lemmas.List.Quantifiers.{position-Some}
use Rattle.std.proofs.lemmas.Option.{slice_get-get_or, slice_get-map}
use Rattle.cq_base.specs.declared.name.Name.{Name}
use Rattle.cq_base.specs.Names.{same_name, number_of, AreDistinct}
use Rattle.cq_base.proofs.Numbers.{position-cons}

-- the name with a number stands there
pub found_name : (names : List Name) (name : Name) (i : ℕ) → number_of names name ≡ Some i → slice_get names i ≡ Some name
found_name names name i h =
    let found = position-Some (same_name name) names i [] h in
    let same : name ≡ get_or names i [] = same_text name (get_or names i []) (sym found.1) in
    slice_get-get_or names i [] found.0 ∙ ap (λ (n : Name). Some n) (sym same)

all_at : (P : Name → Type 0) (names : List Name) (k : ℕ) (name : Name) → AllByRecursion P names → slice_get names k ≡ Some name → P name
all_at P [] k name all h = cc
all_at P (x ∷ xs) zero name all h = let same : x ≡ name = cc in subst P same all.0
all_at P (x ∷ xs) (suc k) name all h = all_at P xs k name all.1 h

-- a name of a table stands at its number
pub number_of-at : (names : List Name) (k : ℕ) (name : Name) → AreDistinct names → slice_get names k ≡ Some name → number_of names name ≡ Some k
unfolding IsDistinct
number_of-at [] k name distinct h = cc
number_of-at (x ∷ xs) zero name distinct h =
    let same : x ≡ name = cc in
    let passes : same_name name x ≡ true = ap (same_name name) same ∙ nat_list_eq_equiv.refl name in
    position-cons (same_name name) x xs ∙ ap (λ b. cond b (Some 0) (option_map suc (position (same_name name) xs))) passes
number_of-at (x ∷ xs) (suc k) name distinct h =
    let other : same_name name x ≡ false = nat_list_eq_equiv.symm name x ∙ all_at (λ y. same_name x y ≡ false) xs k name distinct.0 h in
    position-cons (same_name name) x xs ∙ ap (λ b. cond b (Some 0) (option_map suc (position (same_name name) xs))) other
    ∙ ap (option_map suc) (number_of-at xs k name distinct.1 h)

mapped : {X : Type 0} (name : X → Name) (o : Option X) (n : Name) → option_map name o ≡ Some n → (x : X) × (o ≡ Some x) × (name x ≡ n)
mapped name None n h = cc
mapped name (Some x) n h = (x, refl, cc)

-- what stands in a list at the number of its name
pub found_part : {X : Type 0} (name : X → Name) (parts : List X) (n : Name) (i : ℕ) → number_of (map name parts) n ≡ Some i
    → (x : X) × (slice_get parts i ≡ Some x) × (name x ≡ n)
found_part name parts n i h = mapped name (slice_get parts i) n (sym (slice_get-map name parts i) ∙ found_name (map name parts) n i h)

pub number_of-part : {X : Type 0} (name : X → Name) (parts : List X) (i : ℕ) (x : X) → AreDistinct (map name parts) → slice_get parts i ≡ Some x
    → number_of (map name parts) (name x) ≡ Some i
number_of-part name parts i x distinct h = number_of-at (map name parts) i (name x) distinct (slice_get-map name parts i ∙ ap (option_map name) h)

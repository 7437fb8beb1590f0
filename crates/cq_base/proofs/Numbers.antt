-- Numbers of names in tables.
use Rattle.std.proofs.Common.{ℕ, suc, Bool, true, false, not, List, [], ◌∷◌, ◌++◌, Option, Some, None, ◌≡◌, ◌<◌, ◌+◌, ◌||◌, length, refl, sym, ap, ◌∙◌, arith}
use Rattle.std.specs.Prelude.{is_some, option_map, position, nat_lt, cond}
use Rattle.std.specs.List.{list_any, position_or_len}
use Rattle.std.specs.Cmp.Lexicographic.{nat_list_eq_equiv}
use Rattle.std.proofs.lemmas.Bool.Decides.{nat_tests}
use Rattle.std.proofs.lemmas.List.Quantifiers.{position-Some}
use Rattle.std.proofs.lemmas.Map.Keys.{IsDistinct-push}
use Rattle.cq_base.specs.declared.name.Name.{Name}
use Rattle.cq_base.specs.Names.{same_name, number_of, AreDistinct}

first_place : (b : Bool) (l n : ℕ) → cond (nat_lt (cond (not b) (1 + l) 0) (suc n)) (Some (cond (not b) (1 + l) 0)) None ≡ cond b (Some 0) (option_map suc (cond (nat_lt l n) (Some l) None))
first_place true l n = grind (arith, nat_tests)
first_place false l n = grind (arith, nat_tests)

pub position-cons : {X : Type 0} (p : X → Bool) (x : X) (xs : List X) → position p (x ∷ xs) ≡ cond (p x) (Some 0) (option_map suc (position p xs))
position-cons p x xs = first_place (p x) (position_or_len p xs) (length xs)

some_cond : (b : Bool) (o : Option ℕ) (c : Bool) → is_some o ≡ c → is_some (cond b (Some 0) (option_map suc o)) ≡ (b || c)
some_cond true o c h = refl
some_cond false None c h = h
some_cond false (Some n) c h = h

pub position-any : {X : Type 0} (p : X → Bool) (xs : List X) → is_some (position p xs) ≡ list_any p xs
position-any p [] = refl
position-any p (x ∷ xs) = ap is_some (position-cons p x xs) ∙ some_cond (p x) (position p xs) (list_any p xs) (position-any p xs)

-- a table to which a new name is added stays one in which no name stands twice
pub AreDistinct-more : (names : List Name) (name : Name) → AreDistinct names → number_of names name ≡ None → AreDistinct (names ++ name ∷ [])
AreDistinct-more names name distinct new = IsDistinct-push nat_list_eq_equiv names name distinct (sym (position-any (same_name name) names) ∙ ap is_some new)

pub number_of-within : (names : List Name) (name : Name) (n : ℕ) → number_of names name ≡ Some n → n < length names
number_of-within names name n h = (position-Some (same_name name) names n [] h).0

none_of : (o : Option ℕ) → is_some o ≡ false → o ≡ None
none_of None h = refl
none_of (Some n) h = cc

any-append : {X : Type 0} (p : X → Bool) (xs ys : List X) → list_any p (xs ++ ys) ≡ (list_any p xs || list_any p ys)
any-append p [] ys = refl
any-append p (x ∷ xs) ys = ap (λ b. p x || b) (any-append p xs ys) ∙ associate (p x) (list_any p xs) (list_any p ys)
  where
    associate : (a b c : Bool) → (a || (b || c)) ≡ ((a || b) || c)
    associate true b c = refl
    associate false b c = refl

-- a name in one table beside another
pub number_of_beside : (xs ys : List Name) (name : Name) → is_some (number_of (xs ++ ys) name) ≡ (is_some (number_of xs name) || is_some (number_of ys name))
number_of_beside xs ys name =
    position-any (same_name name) (xs ++ ys) ∙ any-append (same_name name) xs ys
    ∙ (λ i. sym (position-any (same_name name) xs) i || sym (position-any (same_name name) ys) i)

pub number_of_more : (names : List Name) (name other : Name) → is_some (number_of (names ++ name ∷ []) other) ≡ (is_some (number_of names other) || same_name other name)
number_of_more names name other =
    position-any (same_name other) (names ++ name ∷ []) ∙ any-append (same_name other) names (name ∷ [])
    ∙ (λ i. sym (position-any (same_name other) names) i || or_false (same_name other name) i)
  where
    or_false : (b : Bool) → (b || false) ≡ b
    or_false true = refl
    or_false false = refl

pub in_neither : (xs ys : List Name) (name : Name) → number_of xs name ≡ None → number_of ys name ≡ None → number_of (xs ++ ys) name ≡ None
in_neither xs ys name e f = none_of (number_of (xs ++ ys) name) (number_of_beside xs ys name ∙ (λ i. is_some (e i) || is_some (f i)))

pub in_first : (xs ys : List Name) (name : Name) → is_some (number_of xs name) ≡ true → is_some (number_of (xs ++ ys) name) ≡ true
in_first xs ys name e = number_of_beside xs ys name ∙ ap (λ b. b || is_some (number_of ys name)) e

pub in_second : (xs ys : List Name) (name : Name) → is_some (number_of ys name) ≡ true → is_some (number_of (xs ++ ys) name) ≡ true
in_second xs ys name e = number_of_beside xs ys name ∙ ap (λ b. is_some (number_of xs name) || b) e ∙ or_true (is_some (number_of xs name))
  where
    or_true : (b : Bool) → (b || true) ≡ true
    or_true true = refl
    or_true false = refl

-- Uses of labels one behind the other.
use Rattle.std.proofs.Common.{ℕ, zero, suc, List, [], ◌∷◌, ◌++◌, ◌+◌, ◌<◌, ◌≤◌, ◌≡◌, Option, Some, None, length, map, drop, get_or, refl, sym, ap, ◌∙◌, add-one, drop-cons, arith}
use Rattle.std.proofs.lemmas.List.{drop_all, get_or-map, length-map}
use Rattle.std.specs.Prelude.{slice_get}
use Rattle.cq_theory.specs.TypesideData.{TypesideData as Typeside}
use Rattle.cq_theory.specs.declared.value.Value.{Value}
use Rattle.cq_theory.specs.declared.value.Value.TheVariants.{Fun}
use Rattle.cq_theory.proofs.Values.{fold-Fun}
use Rattle.cq_import.specs.declared.labels.Trouble.{Trouble}
use Rattle.cq_import.specs.Labels.{Use, Labels, Room, function_types, then_trouble, use_trouble, uses_args, uses_in, uses_step, uses_trouble, with_use, with_uses}

then-assoc : (a b c : Option Trouble) → then_trouble (then_trouble a b) c ≡ then_trouble a (then_trouble b c)
then-assoc None b c = refl
then-assoc (Some t) b c = refl

pub uses_trouble-append : (room : Room) (labels : Labels) (xs ys : List Use) → uses_trouble room labels (xs ++ ys) ≡ then_trouble (uses_trouble room labels xs) (uses_trouble room (with_uses labels xs) ys)
uses_trouble-append room labels [] ys = refl
uses_trouble-append room labels (x ∷ xs) ys =
    ap (then_trouble (use_trouble room labels x)) (uses_trouble-append room (with_use labels x) xs ys)
    ∙ sym (then-assoc (use_trouble room labels x) (uses_trouble room (with_use labels x) xs) (uses_trouble room (with_uses (with_use labels x) xs) ys))

pub with_uses-append : (labels : Labels) (xs ys : List Use) → with_uses labels (xs ++ ys) ≡ with_uses (with_uses labels xs) ys
with_uses-append labels [] ys = refl
with_uses-append labels (x ∷ xs) ys = with_uses-append (with_use labels x) xs ys

module _ (uses : List (ℕ → List Use)) (types : List ℕ) (i : ℕ) where
  abbrev pub left : List Use
  left = uses_args (drop i uses) (drop i types)

  abbrev pub left_behind : List Use
  left_behind = uses_args (drop (i + 1) uses) (drop (i + 1) types)

  -- one more argument
  pub left_more : (d : ℕ → List Use) → i < length uses → i < length types → left ≡ get_or uses i d (get_or types i 0) ++ left_behind
  left_more d inside within =
      (λ j. uses_args (drop-cons uses i d inside j) (drop-cons types i 0 within j)) ∙ ap (λ n. get_or uses i d (get_or types i 0) ++ uses_args (drop n uses) (drop n types)) (sym (add-one i))

  pub left_past : length types ≤ i → left ≡ []
  left_past past = ap (uses_args (drop i uses)) (drop_all i types past) ∙ no_types (drop i uses)
    where
      no_types : (rest : List (ℕ → List Use)) → uses_args rest [] ≡ []
      no_types [] = refl
      no_types (first ∷ others) = refl

  pub left_end : length uses ≤ i → left ≡ []
  left_end past = ap (λ rest. uses_args rest (drop i types)) (drop_all i uses past)

-- so far no use is wrong, and the others are left
pub record AreNoted (room : Room) (old now : Labels) (whole rest : List Use) : Type 0 where
  pub trouble : uses_trouble room old whole ≡ uses_trouble room now rest
  pub labels : with_uses old whole ≡ with_uses now rest

module _ (room : Room) (old now : Labels) (whole rest : List Use) (noted : AreNoted room old now whole rest) where
  pub noted_trouble : (first behind : List Use) (t : Trouble) → rest ≡ first ++ behind → uses_trouble room now first ≡ Some t → uses_trouble room old whole ≡ Some t
  noted_trouble first behind t is bad =
      noted.trouble ∙ ap (uses_trouble room now) is ∙ uses_trouble-append room now first behind ∙ ap (λ o. then_trouble o (uses_trouble room (with_uses now first) behind)) bad

  pub noted_more : (new : Labels) (first behind : List Use) → rest ≡ first ++ behind → uses_trouble room now first ≡ None → new ≡ with_uses now first → AreNoted room old new whole behind
  noted_more new first behind is good made = record {
    trouble =
        noted.trouble ∙ ap (uses_trouble room now) is ∙ uses_trouble-append room now first behind
        ∙ ap (λ o. then_trouble o (uses_trouble room (with_uses now first) behind)) good ∙ ap (λ l. uses_trouble room l behind) (sym made);
    labels = noted.labels ∙ ap (with_uses now) is ∙ with_uses-append now first behind ∙ ap (λ l. with_uses l behind) (sym made);
  }

  pub noted_all : rest ≡ [] → (uses_trouble room old whole ≡ None) × (now ≡ with_uses old whole)
  noted_all none = (noted.trouble ∙ ap (uses_trouble room now) none, sym (noted.labels ∙ ap (with_uses now) none))

-- the uses in a built value are those in its arguments
pub uses_at : (T : Typeside) (v : Value) (f : ℕ) (vs args : List Value) (types : List ℕ) (sort : ℕ) → v ≡ Fun f vs → args ≡ vs → types ≡ function_types (slice_get T.functions f)
    → uses_in T v sort ≡ uses_args (map (uses_in T) args) types
uses_at T v f vs args types sort is same typed =
    ap (λ w. uses_in T w sort) is
    ∙ ap (λ (g : ℕ → List Use). g sort) (fold-Fun (ℕ → List Use) (uses_step T) f vs)
    ∙ sym (λ j. uses_args (map (uses_in T) (same j)) (typed j))

-- the argument and its type
pub arg_here : (T : Typeside) (args : List Value) (types : List ℕ) (i : ℕ) (arg : Value) (type : ℕ) → i < length args → arg ≡ get_or args i arg → i < length types → type ≡ get_or types i 0
    → left (map (uses_in T) args) types i ≡ uses_in T arg type ++ left_behind (map (uses_in T) args) types i
arg_here T args types i arg type inside is within there =
    let size = length-map args (uses_in T) in
    let inside_too : i < length (map (uses_in T) args) = omega arith in
    left_more (map (uses_in T) args) types i (uses_in T arg) inside_too within
    ∙ ap (λ (g : ℕ → List Use). g (get_or types i 0) ++ left_behind (map (uses_in T) args) types i) (get_or-map (uses_in T) args i arg (uses_in T arg) inside ∙ ap (uses_in T) (sym is))
    ∙ ap (λ n. uses_in T arg n ++ left_behind (map (uses_in T) args) types i) (sym there)

pub no_trouble : (o : Option Trouble) → ((t : Trouble) → o ≡ Some t → ⊥) → o ≡ None
no_trouble None none = refl
no_trouble (Some t) none = absurd (none t refl)

-- Images that break no rule are of the sorts of their generators.
use Rattle.std.proofs.Common.{ℕ, zero, suc, Bool, true, false, not, List, [], ◌∷◌, ◌++◌, Option, Some, None, ◌≡◌, ◌<◌, ◌||◌, ◌&&◌, map, length, get_or, refl, sym, ap, subst, ◌∙◌, append_assoc}
use Rattle.std.specs.Prelude.{slice_get, is_none, is_some, cond, option_map, option_and_then, position, All}
use Rattle.std.specs.List.{IsDistinct, AllByRecursion}
use Rattle.std.specs.Cmp.Lexicographic.{nat_list_eq_equiv, same_text}
use Rattle.std.proofs.lemmas.Bool.{eqb-true}
use Rattle.std.proofs.lemmas.List.{append-nil, length-map}
use Rattle.std.proofs.lemmas.List.Quantifiers.{position-Some}
use Rattle.std.proofs.lemmas.Option.{slice_get-get_or, slice_get-map}
use Rattle.cq_base.specs.declared.name.Name.{Name}
use Rattle.cq_base.specs.declared.raw.Raw.{Raw}
use Rattle.cq_base.specs.Names.{same_name, number_of, AreDistinct}
use Rattle.cq_base.proofs.Numbers.{position-cons, AreDistinct-more}
use Rattle.cq_theory.specs.declared.refusal.TermRefusal.{TermRefusal}
use Rattle.cq_theory.specs.declared.refusal.TermRefusal.TheVariants.{Unknown, WrongCount, WrongSort, Reserved, TooLarge}
use Rattle.cq_theory.specs.declared.refusal.TheoryRefusal.{TheoryRefusal}
use Rattle.cq_theory.specs.declared.presentation.Sort.{Sort}
use Rattle.cq_theory.specs.declared.presentation.Sort.TheVariants.{Plain, Entity}
use Rattle.cq_theory.specs.declared.term.Term.{Term}
use Rattle.cq_theory.specs.declared.term.Term.TheVariants.{Ent, Typ}
use Rattle.cq_theory.specs.SchemaData.{SchemaData as Schema}
use Rattle.cq_theory.specs.Sorts.{Generators, sort_of}
use Rattle.cq_theory.specs.Resolve.{or_else, has_unknown, has_wrong_count, has_reserved, raw_sort, are_of_one_sort, is_too_large, in_part}
use Rattle.cq_theory.specs.Resolved.{resolved}
use Rattle.cq_theory.specs.Paths.{is_among}
use Rattle.cq_theory.proofs.DeclaredParts.{or_else_none, new_name, first_part_fault-each}
use Rattle.cq_theory.proofs.Faults.{of_five, not_false}
use Rattle.cq_theory.proofs.OnValues.{All_at}
use Rattle.cq_theory.proofs.ResolvedSorts.{map_some, sort_of-resolved}
use Rattle.cq_instance.specs.InstanceData.{InstanceData}
use Rattle.cq_instance.specs.declared.transform.Image.{Image}
use Rattle.cq_instance.proofs.Lists.{get-map, get-map_from}
use Rattle.cq_transform.specs.declared.refusal.TransformRefusal.{TransformRefusal}
use Rattle.cq_transform.specs.declared.refusal.TransformRefusal.TheVariants.{Missing}
use Rattle.cq_scope.specs.declared.names.Scope.{Scope}
use Rattle.cq_transform.specs.Images.{of_transform, names_of, sorts_of, scope_of, sort_in, image_rule, image_fault, parts_fault, given, first_missing, has_image, image_of, image_in, image_named, fault_over, made_over, images_fault, images_made}
use Rattle.cq_transform.specs.Transforms.{term_of}
use Rattle.cq_transform.specs.Transforming.{AreSorted}

-- the name with a number stands there
found_name : (names : List Name) (name : Name) (k : ℕ) → number_of names name ≡ Some k → slice_get names k ≡ Some name
found_name names name k h =
    let found = position-Some (same_name name) names k [] h in
    let same : name ≡ get_or names k [] = same_text name (get_or names k []) (sym found.1) in
    slice_get-get_or names k [] found.0 ∙ ap (λ (n : Name). Some n) (sym same)

all_at : (P : Name → Type 0) (names : List Name) (k : ℕ) (name : Name) → AllByRecursion P names → slice_get names k ≡ Some name → P name
all_at P [] k name all h = cc
all_at P (x ∷ xs) zero name all h = let same : x ≡ name = cc in subst P same all.0
all_at P (x ∷ xs) (suc k) name all h = all_at P xs k name all.1 h

-- a name of a table stands at its number
number_of-at : (names : List Name) (k : ℕ) (name : Name) → AreDistinct names → slice_get names k ≡ Some name → number_of names name ≡ Some k
unfolding IsDistinct
number_of-at [] k name distinct h = cc
number_of-at (x ∷ xs) zero name distinct h =
    let same : x ≡ name = cc in
    let passes : same_name name x ≡ true = ap (same_name name) same ∙ nat_list_eq_equiv.refl name in
    position-cons (same_name name) x xs ∙ ap (λ b. cond b (Some 0) (option_map suc (position (same_name name) xs))) passes
number_of-at (x ∷ xs) (suc k) name distinct h =
    let other : same_name name x ≡ false = nat_list_eq_equiv.symm name x ∙ all_at (λ y. same_name x y ≡ false) xs k name distinct.0 h in
    position-cons (same_name name) x xs ∙ ap (λ b. cond b (Some 0) (option_map suc (position (same_name name) xs))) other
    ∙ ap (option_map suc) (number_of-at xs k name distinct.1 h)

no_refusal : (o : Option TheoryRefusal) → option_map of_transform o ≡ None → o ≡ None
no_refusal None h = refl
no_refusal (Some r) h = cc

no_rule : (n : ℕ) (o : Option TermRefusal) → option_map (in_part n) o ≡ None → o ≡ None
no_rule n None h = refl
no_rule n (Some r) h = cc

one_sort : (o p : Option Sort) → are_of_one_sort o p ≡ true → (sort : Sort) × (o ≡ Some sort) × (p ≡ Some sort)
one_sort None p h = cc
one_sort (Some s) None h = cc
one_sort (Some (Plain t)) (Some (Plain u)) h = (Plain t, refl, ap (λ n. Some (Plain n)) (sym (eqb-true t u h)))
one_sort (Some (Plain t)) (Some (Entity u)) h = cc
one_sort (Some (Entity t)) (Some (Plain u)) h = cc
one_sort (Some (Entity t)) (Some (Entity u)) h = (Entity t, refl, ap (λ n. Some (Entity n)) (sym (eqb-true t u h)))

some_when : (o : Option ℕ) → is_some o ≡ true → (n : ℕ) × (o ≡ Some n)
some_when None h = cc
some_when (Some n) h = (n, refl)

-- where each generator has an image, its name is given, and stands for no earlier one
module _ (names : List Name) where
  passes : (a b : Bool) → (a && not b) ≡ true → (a ≡ true) × (b ≡ false)
  passes true false h = (refl, refl)
  passes true true h = cc
  passes false b h = cc

  -- the first one has one, and so have the others
  first_passes : (earlier : List Name) (x : Name) (xs : List Name) → first_missing names earlier (x ∷ xs) ≡ None
      → (is_among names x ≡ true) × (is_among earlier x ≡ false) × (first_missing names (earlier ++ x ∷ []) xs ≡ None)
  first_passes earlier x xs h = at_test (has_image names earlier x) refl h
    where
      at_test : (b : Bool) → has_image names earlier x ≡ b → cond b (first_missing names (earlier ++ x ∷ []) xs) (Some (Missing x)) ≡ None
          → (is_among names x ≡ true) × (is_among earlier x ≡ false) × (first_missing names (earlier ++ x ∷ []) xs ≡ None)
      at_test true e rest = let both = passes (is_among names x) (is_among earlier x) e in (both.0, both.1, rest)
      at_test false e rest = cc

  given_each : (earlier wanted : List Name) → first_missing names earlier wanted ≡ None → (k : ℕ) (name : Name) → slice_get wanted k ≡ Some name → (m : ℕ) × (number_of names name ≡ Some m)
  given_each earlier [] h k name at = cc
  given_each earlier (x ∷ xs) h zero name at =
      let same : x ≡ name = cc in
      some_when (number_of names name) (ap (is_among names) (sym same) ∙ (first_passes earlier x xs h).0)
  given_each earlier (x ∷ xs) h (suc k) name at = given_each (earlier ++ x ∷ []) xs (first_passes earlier x xs h).2 k name at

  none_when : (o : Option ℕ) → is_some o ≡ false → o ≡ None
  none_when None h = refl
  none_when (Some n) h = cc

  distinct_after : (earlier wanted : List Name) → first_missing names earlier wanted ≡ None → AreDistinct earlier → AreDistinct (earlier ++ wanted)
  distinct_after earlier [] h distinct = subst AreDistinct (sym (append-nil earlier)) distinct
  distinct_after earlier (x ∷ xs) h distinct =
      let first = first_passes earlier x xs h in
      subst AreDistinct (append_assoc earlier (x ∷ []) xs)
      (distinct_after (earlier ++ x ∷ []) xs first.2 (AreDistinct-more earlier x distinct (none_when (number_of earlier x) first.1)))

  no_names : AreDistinct []
  unfolding IsDistinct
  no_names = tt

image_term : (t : Term) → term_of (image_of t) ≡ t
image_term (Ent t) = refl
image_term (Typ t) = refl

module _ (S : Schema) (G H : Generators) where
  abbrev from : Scope
  from = scope_of G

  abbrev to : Scope
  to = scope_of H

  agrees : (n : ℕ) (sort : Sort) → slice_get to.sorts n ≡ Some sort → (g : Name × Sort) × (slice_get H n ≡ Some g) × (g.1 ≡ sort)
  agrees n sort at = get-map_from (λ (g : Name × Sort). g.1) H n sort at

  -- an image that breaks no rule is of the sort of the generator with its name
  rules_kept : (part : Name × Raw) → image_rule S from to part ≡ None
      → (sort : Sort) × (sort_in from part.0 ≡ Some sort) × (sort_of S H (resolved S to.names to.sorts part.1) ≡ Some sort)
  unfolding image_rule
  rules_kept part h =
      let rules = of_five (is_none (sort_in from part.0) || has_unknown S to.names part.1) (has_wrong_count S part.1)
      (not (are_of_one_sort (raw_sort S to.names to.sorts part.1) (sort_in from part.0))) (has_reserved S part.1) (is_too_large part.1) Unknown WrongCount WrongSort Reserved TooLarge h in
      let one = one_sort (raw_sort S to.names to.sorts part.1) (sort_in from part.0) (not_false _ rules.2) in
      (one.0, one.2, sort_of-resolved S H to.names to.sorts agrees part.1 rules.3 one.0 one.1)

  module _ (parts : List (Name × Raw)) (none : fault_over S G H parts ≡ None) where
    both_none : (option_map of_transform (parts_fault S from to parts) ≡ None) × (first_missing (given parts) [] (names_of G) ≡ None)
    both_none = or_else_none (option_map of_transform (parts_fault S from to parts)) (first_missing (given parts) [] (names_of G)) none

    distinct : AreDistinct (names_of G)
    distinct = distinct_after (given parts) [] (names_of G) both_none.1 (no_names (given parts))

    part_right : (k : ℕ) (part : Name × Raw) → slice_get parts k ≡ Some part → image_rule S from to part ≡ None
    part_right k part at =
        All_at (λ (p : Name × Raw). image_rule S from to p ≡ None) parts k part
        (first_part_fault-each (λ (p : Name × Raw). p.0) (image_fault S from to) (λ (p : Name × Raw). image_rule S from to p ≡ None)
        (λ earlier m p free. no_rule m (image_rule S from to p) (new_name earlier m p.0 (option_map (in_part m) (image_rule S from to p)) free).1) [] 0 parts
        (no_refusal (parts_fault S from to parts) both_none.0)) at

    made_sorted : (n : ℕ) (g : Name × Sort) (image : Image) → slice_get G n ≡ Some g → slice_get (made_over S G H parts) n ≡ Some image
        → sort_of S H (term_of image) ≡ Some g.1
    made_sorted n g image at here =
        let named : slice_get (names_of G) n ≡ Some g.0 = get-map (λ (x : Name × Sort). x.0) G n g at in
        let number = given_each (given parts) [] (names_of G) both_none.1 n g.0 named in
        let found = get-map_from (λ (p : Name × Raw). p.0) parts number.0 g.0 (found_name (given parts) g.0 number.0 number.1) in
        let kept = rules_kept found.0 (part_right number.0 found.0 found.1) in
        let place : number_of (names_of G) g.0 ≡ Some n = number_of-at (names_of G) n g.0 distinct named in
        let sort_there : sort_in from g.0 ≡ Some g.1 = ap (option_and_then (slice_get (sorts_of G))) place ∙ get-map (λ (x : Name × Sort). x.1) G n g at in
        let same : Some kept.0 ≡ Some g.1 = sym kept.1 ∙ ap (sort_in from) found.2 ∙ sort_there in
        let made : slice_get (made_over S G H parts) n ≡ Some (image_of (resolved S to.names to.sorts found.0.1)) =
        get-map (image_named S to (given parts) parts) (names_of G) n g.0 named
        ∙ ap (λ o. Some (image_in S to (option_and_then (slice_get parts) o))) number.1 ∙ ap (λ o. Some (image_in S to o)) found.1 in
        let both : Some (image_of (resolved S to.names to.sorts found.0.1)) ≡ Some image = sym made ∙ here in
        let is : image_of (resolved S to.names to.sorts found.0.1) ≡ image = cc in
        ap (λ (x : Image). sort_of S H (term_of x)) (sym is) ∙ ap (sort_of S H) (image_term (resolved S to.names to.sorts found.0.1)) ∙ kept.2 ∙ same

    made_count : length (made_over S G H parts) ≡ length G
    made_count = length-map (names_of G) (image_named S to (given parts) parts) ∙ length-map G (λ (g : Name × Sort). g.0)

-- so for the images that parts give to the generators of one instance over another one
pub images_sorted : (i j : InstanceData) (parts : List (Name × Raw)) (images : List Image) → j.schema ≡ i.schema
    → images_fault i j parts ≡ None → images ≡ images_made i j parts → AreSorted i j images
images_sorted i j parts images same none made = subst (AreSorted i j) (sym made) (record {
  count = made_count i.schema i.presentation.generators j.presentation.generators parts none;
  sorts = λ n g image at here. ap (λ (T : Schema). sort_of T j.presentation.generators (term_of image)) same
      ∙ made_sorted i.schema i.presentation.generators j.presentation.generators parts none n g image at here;
})

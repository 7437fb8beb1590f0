-- One generator more.
use Rattle.std.proofs.Common.{ℕ, zero, suc, Bool, true, false, List, [], ◌∷◌, ◌++◌, Option, Some, None, ◌≡◌, ◌<◌, ◌≤◌, ◌+◌, inl, inr, map, length, refl, sym, ap, subst, ◌∙◌, arith, length-append}
use Rattle.std.specs.Prelude.{slice_get, slice_index, cond, is_some, option_and_then}
use Rattle.std.specs.Cmp.Lexicographic.{nat_list_eq_equiv, same_text}
use Rattle.std.proofs.lemmas.List.{map-append, length-map}
use Rattle.cq_base.specs.declared.name.Name.{Name}
use Rattle.cq_base.specs.Names.{number_of, same_name}
use Rattle.cq_base.proofs.Numbers.{number_of-within}
use Rattle.cq_theory.specs.declared.presentation.Sort.{Sort}
use Rattle.cq_theory.specs.Sorts.{Generators}
use Rattle.cq_terms.specs.Generators.{names_of, sorts_of}
use Rattle.cq_scope.specs.Firsts.{AreFirsts}
use Rattle.cq_scope.proofs.Places.{get_left, get_last, get_either, get_some, position_left, position_last}

none_some : {X : Type 0} (x : X) → None ≡ Some x → ⊥
none_some x h = absurd (cc h)

some_same : {X : Type 0} (x y : X) → Some x ≡ Some y → x ≡ y
some_same x y h = cc

-- nothing is named yet
pub first_none : AreFirsts [] [] [] []
first_none = record {
  numbers_count = refl;
  sorts_count = refl;
  finds = λ name. refl;
  sorted = λ k n h. absurd (none_some n h);
  few = omega arith;
  some = λ h. absurd (omega (arith, h));
  from_first = refl;
}

module _ (G : Generators) (names : List Name) (sorts : List Sort) (numbers : List ℕ) (firsts : AreFirsts G names sorts numbers) (g : Name × Sort) where
  names_after : names_of (G ++ g ∷ []) ≡ names_of G ++ g.0 ∷ []
  names_after = map-append (λ (x : Name × Sort). x.0) G (g ∷ [])

  sorts_after : sorts_of (G ++ g ∷ []) ≡ sorts_of G ++ g.1 ∷ []
  sorts_after = map-append (λ (x : Name × Sort). x.1) G (g ∷ [])

  names_count : length (names_of G) ≡ length G
  names_count = length-map G (λ (x : Name × Sort). x.0)

  sorts_there : length (sorts_of G) ≡ length G
  sorts_there = length-map G (λ (x : Name × Sort). x.1)

  count_after : length (G ++ g ∷ []) ≡ length G + 1
  count_after = length-append G (g ∷ [])

  -- a name that is found stands for the same generator
  found_there : (name : Name) (k : ℕ) → number_of names name ≡ Some k → (n : ℕ) × (slice_get numbers k ≡ Some n) × (number_of (names_of G) name ≡ Some n)
  found_there name k h =
      let within : k < length names = number_of-within names name k h in
      let at = get_some numbers k (omega (arith, within, firsts.numbers_count)) in
      (at.0, at.1, sym (firsts.finds name) ∙ ap (option_and_then (slice_get numbers)) h ∙ at.1)

  none_there : (name : Name) → number_of names name ≡ None → number_of (names_of G) name ≡ None
  none_there name h = sym (firsts.finds name) ∙ ap (option_and_then (slice_get numbers)) h

  kept_name : (name : Name) (n : ℕ) → number_of (names_of G) name ≡ Some n → number_of (names_of (G ++ g ∷ [])) name ≡ Some n
  kept_name name n h = ap (λ ns. number_of ns name) names_after ∙ position_left (same_name name) (names_of G) g.0 n h

  new_name : (name : Name) → number_of (names_of G) name ≡ None → number_of (names_of (G ++ g ∷ [])) name ≡ cond (same_name name g.0) (Some (length G)) None
  new_name name h =
      ap (λ ns. number_of ns name) names_after ∙ position_last (same_name name) (names_of G) g.0 h
      ∙ ap (λ n. cond (same_name name g.0) (Some n) None) names_count

  sort_kept : (k n : ℕ) → slice_get numbers k ≡ Some n → slice_get sorts k ≡ slice_get (sorts_of (G ++ g ∷ [])) n
  sort_kept k n h =
      let within : k < length numbers = within_list numbers k n h in
      let at = get_some sorts k (omega (arith, within, firsts.numbers_count, firsts.sorts_count)) in
      let there : slice_get (sorts_of G) n ≡ Some at.0 = sym (firsts.sorted k n h) ∙ at.1 in
      at.1 ∙ sym (ap (λ ss. slice_get ss n) sorts_after ∙ get_left (sorts_of G) g.1 n at.0 there)
    where
      within_list : {X : Type 0} (xs : List X) (k : ℕ) (x : X) → slice_get xs k ≡ Some x → k < length xs
      within_list [] k x h = absurd (none_some x h)
      within_list (y ∷ xs) zero x h = omega arith
      within_list (y ∷ xs) (suc k) x h = let rest : k < length xs = within_list xs k x h in omega arith

  -- it has a name that stands for one before it
  module _ (m : ℕ) (known : number_of names g.0 ≡ Some m) where
    other_name : (name : Name) (b : Bool) → same_name name g.0 ≡ b → number_of (names_of G) name ≡ None → cond b (Some (length G)) None ≡ None
    other_name name false is h = refl
    other_name name true is h =
        let same : name ≡ g.0 = same_text name g.0 (sym is) in
        let found = found_there g.0 m known in
        absurd (none_some found.0 (sym h ∙ ap (number_of (names_of G)) same ∙ found.2))

    finds_known : (name : Name) (o : Option ℕ) → number_of (names_of G) name ≡ o → o ≡ number_of (names_of (G ++ g ∷ [])) name
    finds_known name (Some n) is = sym (kept_name name n is)
    finds_known name None is = sym (new_name name is ∙ other_name name (same_name name g.0) refl is)

    pub known_added : AreFirsts (G ++ g ∷ []) names sorts numbers
    known_added = record {
      numbers_count = firsts.numbers_count;
      sorts_count = firsts.sorts_count;
      finds = λ name. firsts.finds name ∙ finds_known name (number_of (names_of G) name) refl;
      sorted = sort_kept;
      few = omega (arith, firsts.few, count_after);
      some = λ h. omega (arith, number_of-within names g.0 m known);
      from_first = firsts.from_first;
    }

  -- it is the first of its name
  module _ (new : number_of names g.0 ≡ None) where
    after_names : List Name
    after_names = names ++ g.0 ∷ []

    first_number : (ns : List ℕ) → slice_index ns 0 ≡ 0 → (length ns ≡ 0 → length G ≡ 0) → slice_index (ns ++ length G ∷ []) 0 ≡ 0
    first_number [] zero_is empty = empty refl
    first_number (n ∷ ns) zero_is empty = zero_is

    no_generators : length numbers ≡ 0 → length G ≡ 0
    no_generators h = elim_zero (length G) (λ more. let least : 0 < length names = firsts.some more in omega (arith, least, h, firsts.numbers_count))
      where
        elim_zero : (n : ℕ) → (0 < n → ⊥) → n ≡ 0
        elim_zero zero never = refl
        elim_zero (suc n) never = absurd (never (omega arith))

    last_number : (name : Name) (b : Bool) → option_and_then (slice_get (numbers ++ length G ∷ [])) (cond b (Some (length names)) None) ≡ cond b (Some (length G)) None
    last_number name false = refl
    last_number name true = get_last numbers (length G) (length names) (sym firsts.numbers_count)

    finds_new : (name : Name) (o : Option ℕ) → number_of names name ≡ o
        → option_and_then (slice_get (numbers ++ length G ∷ [])) (number_of (names ++ g.0 ∷ []) name) ≡ number_of (names_of (G ++ g ∷ [])) name
    finds_new name (Some k) is =
        let found = found_there name k is in
        ap (option_and_then (slice_get (numbers ++ length G ∷ []))) (position_left (same_name name) names g.0 k is)
        ∙ get_left numbers (length G) k found.0 found.1 ∙ sym (kept_name name found.0 found.2)
    finds_new name None is =
        ap (option_and_then (slice_get (numbers ++ length G ∷ []))) (position_last (same_name name) names g.0 is)
        ∙ last_number name (same_name name g.0) ∙ sym (new_name name (none_there name is))

    sorts_new : (k n : ℕ) → slice_get (numbers ++ length G ∷ []) k ≡ Some n → slice_get (sorts ++ g.1 ∷ []) k ≡ slice_get (sorts_of (G ++ g ∷ [])) n
    sorts_new k n h = elim (get_either numbers (length G) k n h) [
      | inl before ↦
          let within : k < length sorts = within_sorts k n before in
          let at = get_some sorts k within in
          get_left sorts g.1 k at.0 at.1 ∙ sym at.1 ∙ sort_kept k n before
      | inr last ↦
          get_last sorts g.1 k (last.0 ∙ firsts.numbers_count ∙ sym firsts.sorts_count)
          ∙ sym (ap (λ ss. slice_get ss n) sorts_after ∙ get_last (sorts_of G) g.1 n (sym last.1 ∙ sym sorts_there))
    ]
      where
        within_numbers : {X : Type 0} (xs : List X) (k : ℕ) (x : X) → slice_get xs k ≡ Some x → k < length xs
        within_numbers [] k x h = absurd (none_some x h)
        within_numbers (y ∷ xs) zero x h = omega arith
        within_numbers (y ∷ xs) (suc k) x h = let rest : k < length xs = within_numbers xs k x h in omega arith

        within_sorts : (k n : ℕ) → slice_get numbers k ≡ Some n → k < length sorts
        within_sorts k n at = let within : k < length numbers = within_numbers numbers k n at in omega (arith, within, firsts.numbers_count, firsts.sorts_count)

    pub new_added : AreFirsts (G ++ g ∷ []) (names ++ g.0 ∷ []) (sorts ++ g.1 ∷ []) (numbers ++ length G ∷ [])
    new_added = record {
      numbers_count = length-append numbers (length G ∷ []) ∙ ap (λ n. n + 1) firsts.numbers_count ∙ sym (length-append names (g.0 ∷ []));
      sorts_count = length-append sorts (g.1 ∷ []) ∙ ap (λ n. n + 1) firsts.sorts_count ∙ sym (length-append names (g.0 ∷ []));
      finds = λ name. finds_new name (number_of names name) refl;
      sorted = sorts_new;
      few = omega (arith, firsts.few, count_after, length-append names (g.0 ∷ []));
      some = λ h. omega (arith, length-append names (g.0 ∷ []));
      from_first = first_number numbers firsts.from_first no_generators;
    }

-- what was found and added, or found there
pub added : (G : Generators) (names : List Name) (sorts : List Sort) (numbers : List ℕ) (g : Name × Sort) (number : ℕ) (names' : List Name) (sorts' : List Sort) (numbers' : List ℕ)
    → number ≡ length G → AreFirsts G names sorts numbers → number_of names g.0 ≡ None → names' ≡ names ++ g.0 ∷ [] → sorts' ≡ sorts ++ g.1 ∷ [] → numbers' ≡ numbers ++ number ∷ []
    → AreFirsts (G ++ g ∷ []) names' sorts' numbers'
added G names sorts numbers g number names' sorts' numbers' is firsts new names_are sorts_are numbers_are =
    subst (λ (x : List Name × List Sort × List ℕ). AreFirsts (G ++ g ∷ []) x.0 x.1 x.2)
    (λ i. (sym names_are i, sym sorts_are i, sym (numbers_are ∙ ap (λ n. numbers ++ n ∷ []) is) i)) (new_added G names sorts numbers firsts g new)

pub none_of : (o : Option ℕ) → is_some o ≡ false → o ≡ None
none_of None h = refl
none_of (Some n) h = absurd (cc h)

some_of : (o : Option ℕ) → is_some o ≡ true → (n : ℕ) × (o ≡ Some n)
some_of None h = absurd (cc h)
some_of (Some n) h = (n, refl)

pub known : (G : Generators) (names : List Name) (sorts : List Sort) (numbers : List ℕ) (g : Name × Sort) → is_some (number_of names g.0) ≡ true
    → AreFirsts G names sorts numbers → AreFirsts (G ++ g ∷ []) names sorts numbers
known G names sorts numbers g h firsts = let found = some_of (number_of names g.0) h in known_added G names sorts numbers firsts g found.0 found.1

-- The presentation that parts without faults give is one over the schema.
use Rattle.std.proofs.Common.{ℕ, Bool, true, false, not, List, [], ◌∷◌, ◌++◌, Option, Some, None, ◌≡◌, ◌<◌, ◌≤◌, ◌+◌, ◌||◌, map, length, refl, sym, ap, subst, ◌∙◌, arith}
use Rattle.std.specs.Prelude.{is_none, cond, slice_get, option_map, nat_le}
use Rattle.std.specs.List.{IsDistinct}
use Rattle.std.proofs.lemmas.List.{length-map}
use Rattle.std.proofs.lemmas.List.Elements.{All-map}
use Rattle.std.proofs.lemmas.Option.{slice_get-map}
use Rattle.std.proofs.lemmas.Bool.{eqb-true}
use Rattle.std.proofs.lemmas.Bool.Decides.{nat_tests}
use Rattle.cq_base.specs.declared.name.Name.{Name}
use Rattle.cq_base.specs.declared.raw.Raw.{Raw}
use Rattle.cq_base.specs.Names.{number_of, AreDistinct}
use Rattle.cq_base.proofs.Numbers.{number_of-within}
use Rattle.cq_theory.specs.declared.refusal.TermRefusal.TheVariants as term_refusal
use Rattle.cq_theory.specs.declared.refusal.TheoryRefusal.TheVariants.{Unknown, TooLarge}
use Rattle.cq_theory.specs.declared.presentation.Equation.{Equation}
use Rattle.cq_theory.specs.declared.presentation.Sort.{Sort}
use Rattle.cq_theory.specs.declared.presentation.Sort.TheVariants.{Plain, Entity}
use Rattle.cq_theory.specs.SchemaData.{SchemaData as Schema}
use Rattle.cq_theory.specs.declared.term.Term.{Term}
use Rattle.cq_theory.specs.declared.term.Term.TheVariants.{Ent, Typ}
use Rattle.cq_theory.specs.Sorts.{entity_of, type_of, sort_of}
use Rattle.cq_theory.specs.Derivation.{left_of, right_of}
use Rattle.cq_theory.specs.Presentation.{IsSort, IsEquation, IsPresentation, term_symbols}
use Rattle.cq_theory.specs.Resolve.{or_else, sort_named, raw_sort, raw_symbols, has_unknown, has_wrong_count, has_reserved, is_too_large, are_of_one_sort, equation_fault}
use Rattle.cq_theory.specs.Resolved.{resolved}
use Rattle.cq_theory.specs.Parts.{sort_or_first, generator_fault, first_generator_fault, generator_names, generator_sorts, presentation_fault, equation_of, presented}
use Rattle.cq_theory.proofs.DeclaredParts.{or_else_none, new_name, first_part_fault-distinct, first_part_fault-each}
use Rattle.cq_theory.proofs.Faults.{of_five, not_false, neither, at_most, first_fault-each, made_of}
use Rattle.cq_theory.proofs.RawSymbols.{resolved-no_longer}
use Rattle.cq_theory.proofs.ResolvedSorts.{map_some, sort_of-resolved}

of_two : {X : Type 0} (a b : Bool) (x y : X) → cond a (Some x) (cond b (Some y) None) ≡ None → (a ≡ false) × (b ≡ false)
of_two true b x y h = cc
of_two false true x y h = cc
of_two false false x y h = (refl, refl)

apart : (e t : ℕ) → Entity e ≡ Plain t → ⊥
apart e t h = cc

empty_distinct : AreDistinct []
unfolding IsDistinct
empty_distinct = tt

module _ (S : Schema) where
  generator_rules : (earlier : List Name) (n : ℕ) (part : Name × Name) → generator_fault S earlier n part ≡ None → (is_none (sort_named S part.1) ≡ false) × (nat_le 16000000 n ≡ false)
  generator_rules earlier n part h = of_two (is_none (sort_named S part.1)) (nat_le 16000000 n) (Unknown n) (TooLarge n) (new_name earlier n part.0 _ h).1

  known_sort : (name : Name) → is_none (sort_named S name) ≡ false → IsSort S (sort_or_first (sort_named S name))
  known_sort name h = at_numbers (number_of S.typeside.types name) (number_of S.entities name) refl refl h
    where
      at_numbers : (o p : Option ℕ) → number_of S.typeside.types name ≡ o → number_of S.entities name ≡ p
          → is_none (or_else (option_map Plain o) (option_map Entity p)) ≡ false → IsSort S (sort_or_first (or_else (option_map Plain o) (option_map Entity p)))
      at_numbers (Some t) p is is' e = number_of-within S.typeside.types name t is
      at_numbers None (Some n) is is' e = number_of-within S.entities name n is'
      at_numbers None None is is' e = cc

  few_generators : (earlier : List Name) (n : ℕ) (parts : List (Name × Name)) → first_generator_fault S earlier n parts ≡ None → n ≤ 16000000 → n + length parts ≤ 16000000
  few_generators earlier n [] h le = omega arith
  few_generators earlier n (part ∷ parts) h le =
      let both = or_else_none (generator_fault S earlier n part) (first_generator_fault S (earlier ++ part.0 ∷ []) (n + 1) parts) h in
      let below : n < 16000000 = not_reached n (generator_rules earlier n part both.0).1 in
      let rest : (n + 1) + length parts ≤ 16000000 = few_generators (earlier ++ part.0 ∷ []) (n + 1) parts both.1 (omega arith) in
      omega arith
    where
      not_reached : (n : ℕ) → nat_le 16000000 n ≡ false → n < 16000000
      not_reached n h = grind (arith, nat_tests)

  one_sort : (o p : Option Sort) → are_of_one_sort o p ≡ true → (sort : Sort) × (o ≡ Some sort) × (p ≡ Some sort)
  one_sort None p h = cc
  one_sort (Some s) None h = cc
  one_sort (Some (Plain t)) (Some (Plain u)) h = (Plain t, refl, ap (λ n. Some (Plain n)) (sym (eqb-true t u h)))
  one_sort (Some (Plain t)) (Some (Entity u)) h = cc
  one_sort (Some (Entity t)) (Some (Plain u)) h = cc
  one_sort (Some (Entity t)) (Some (Entity u)) h = (Entity t, refl, ap (λ n. Some (Entity n)) (sym (eqb-true t u h)))

  module _ (G : List (Name × Sort)) where
    -- terms of one sort are of one kind, so that they make an equation
    sides : (t u : Term) (sort : Sort) → sort_of S G t ≡ Some sort → sort_of S G u ≡ Some sort → (left_of (equation_of t u) ≡ t) × (right_of (equation_of t u) ≡ u)
    sides (Ent t) (Ent u) sort h h' = (refl, refl)
    sides (Typ t) (Typ u) sort h h' = (refl, refl)
    sides (Ent t) (Typ u) sort h h' =
        let e = map_some Entity (entity_of S G t) sort h in
        let f = map_some Plain (type_of S G u) sort h' in
        absurd (apart e.0 f.0 (e.2 ∙ sym f.2))
    sides (Typ t) (Ent u) sort h h' =
        let e = map_some Entity (entity_of S G u) sort h' in
        let f = map_some Plain (type_of S G t) sort h in
        absurd (apart e.0 f.0 (e.2 ∙ sym f.2))

  module _ (generators : List (Name × Name)) where
    abbrev made_generator : Name × Name → Name × Sort
    made_generator part = (part.0, sort_or_first (sort_named S part.1))

    agrees : (n : ℕ) (sort : Sort) → slice_get (generator_sorts S generators) n ≡ Some sort → (g : Name × Sort) × (slice_get (map made_generator generators) n ≡ Some g) × (g.1 ≡ sort)
    agrees n sort h =
        let found = map_some (λ (part : Name × Name). sort_or_first (sort_named S part.1)) (slice_get generators n) sort (sym (slice_get-map (λ (part : Name × Name). sort_or_first (sort_named S part.1)) generators n) ∙ h) in
        (made_generator found.0, slice_get-map made_generator generators n ∙ ap (option_map made_generator) found.1, found.2)

    abbrev side : Raw → Term
    side = resolved S (generator_names generators) (generator_sorts S generators)

    fits : (raw : Raw) → has_wrong_count S raw ≡ false → is_too_large raw ≡ false → term_symbols (side raw) ≤ 1024
    fits raw counted short =
        let a = resolved-no_longer S (generator_names generators) (generator_sorts S generators) raw counted in
        let b = at_most 1024 (raw_symbols raw) short in
        omega arith

    equation-is : (equations : List Equation) (e : Raw × Raw) → equation_fault S (generator_names generators) (generator_sorts S generators) e ≡ None
        → IsEquation S (record { generators = map made_generator generators; equations = equations }) (equation_of (side e.0) (side e.1))
    equation-is equations e h =
        let names = generator_names generators in
        let sorts = generator_sorts S generators in
        let rules = of_five (has_unknown S names e.0 || has_unknown S names e.1) (has_wrong_count S e.0 || has_wrong_count S e.1)
        (not (are_of_one_sort (raw_sort S names sorts e.0) (raw_sort S names sorts e.1))) (has_reserved S e.0 || has_reserved S e.1) (is_too_large e.0 || is_too_large e.1)
        term_refusal.Unknown term_refusal.WrongCount term_refusal.WrongSort term_refusal.Reserved term_refusal.TooLarge h in
        let counted = neither (has_wrong_count S e.0) (has_wrong_count S e.1) rules.1 in
        let free = neither (has_reserved S e.0) (has_reserved S e.1) rules.3 in
        let short = neither (is_too_large e.0) (is_too_large e.1) rules.4 in
        let found = one_sort (raw_sort S names sorts e.0) (raw_sort S names sorts e.1) (not_false _ rules.2) in
        let left : sort_of S (map made_generator generators) (side e.0) ≡ Some found.0 = sort_of-resolved S (map made_generator generators) names sorts agrees e.0 free.0 found.0 found.1 in
        let right : sort_of S (map made_generator generators) (side e.1) ≡ Some found.0 = sort_of-resolved S (map made_generator generators) names sorts agrees e.1 free.1 found.0 found.2 in
        let same = sides (map made_generator generators) (side e.0) (side e.1) found.0 left right in
        record {
          sort = found.0;
          left = ap (sort_of S (map made_generator generators)) same.0 ∙ left;
          right = ap (sort_of S (map made_generator generators)) same.1 ∙ right;
          left_fits = subst (λ (t : Term). term_symbols t ≤ 1024) (sym same.0) (fits e.0 counted.0 short.0);
          right_fits = subst (λ (t : Term). term_symbols t ≤ 1024) (sym same.1) (fits e.1 counted.1 short.1);
        }

  pub presented-is : (generators : List (Name × Name)) (equations : List (Raw × Raw)) → presentation_fault S generators equations ≡ None → IsPresentation S (presented S generators equations)
  presented-is generators equations h =
      let both = or_else_none (first_generator_fault S [] 0 generators) _ h in
      record {
        generators = All-map (λ g. IsSort S g.1) (made_generator generators) generators
            (first_part_fault-each (λ part. part.0) (generator_fault S) (λ part. IsSort S (sort_or_first (sort_named S part.1)))
            (λ earlier n part e. known_sort part.1 (generator_rules earlier n part e).0) [] 0 generators both.0);
        count = omega (arith, few_generators [] 0 generators both.0 (omega arith), length-map generators (made_generator generators));
        equations = λ n e at.
            let part = made_of (λ (q : Raw × Raw). equation_of (side generators q.0) (side generators q.1)) equations n e at in
            subst (IsEquation S (presented S generators equations)) (sym part.2)
            (equation-is generators (presented S generators equations).equations part.0
            (first_fault-each (equation_fault S (generator_names generators) (generator_sorts S generators)) (length generators) equations both.1 n part.0 part.1));
      }

  pub presented-distinct : (generators : List (Name × Name)) (equations : List (Raw × Raw)) → presentation_fault S generators equations ≡ None
      → AreDistinct (map (λ g. g.0) (presented S generators equations).generators)
  presented-distinct generators equations h =
      subst AreDistinct (sym (same_names generators))
      (first_part_fault-distinct (λ part. part.0) (generator_fault S) (λ earlier n part e. (new_name earlier n part.0 _ e).0) [] 0 generators empty_distinct (or_else_none (first_generator_fault S [] 0 generators) _ h).0)
    where
      same_names : (parts : List (Name × Name)) → map (λ (g : Name × Sort). g.0) (map (λ (part : Name × Name). (part.0, sort_or_first (sort_named S part.1))) parts) ≡ map (λ (part : Name × Name). part.0) parts
      same_names [] = refl
      same_names (part ∷ parts) = ap (λ names. part.0 ∷ names) (same_names parts)

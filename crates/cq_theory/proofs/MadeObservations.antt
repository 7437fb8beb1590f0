-- Observation equations that break no rule are well sorted.
use Rattle.std.proofs.Common.{ℕ, zero, suc, Bool, true, false, not, List, [], ◌∷◌, Option, Some, None, ◌≡◌, ◌<◌, ◌≤◌, ◌||◌, ◌⊎◌, inl, inr, map, length, refl, sym, ap, subst, ◌∙◌, arith}
use Rattle.std.specs.Prelude.{cond, slice_get, option_map}
use Rattle.std.proofs.lemmas.List.Elements.{All-get_or}
use Rattle.std.proofs.lemmas.Option.{get_or_from_slice_get, slice_get_within}
use Rattle.std.proofs.lemmas.Bool.{eqb-true}
use Rattle.cq_base.specs.declared.name.Name.{Name}
use Rattle.cq_base.specs.declared.raw.Raw.{Raw}
use Rattle.cq_base.specs.Names.{number_of}
use Rattle.cq_base.proofs.Numbers.{number_of-within}
use Rattle.cq_theory.specs.declared.lookup.Symbol.{Symbol}
use Rattle.cq_theory.specs.declared.lookup.Symbol.TheVariants.{Function, Key, Attribute}
use Rattle.cq_theory.specs.declared.refusal.TermRefusal.TheVariants.{Unknown, WrongCount, WrongSort, Reserved, TooLarge}
use Rattle.cq_theory.specs.declared.parts.ObsPart.{ObsPart}
use Rattle.cq_theory.specs.declared.presentation.Sort.{Sort}
use Rattle.cq_theory.specs.declared.presentation.Sort.TheVariants.{Plain, Entity}
use Rattle.cq_theory.specs.declared.schema.Edge.{Edge}
use Rattle.cq_theory.specs.declared.schema.ObsEq.{ObsEq}
use Rattle.cq_theory.specs.SchemaData.{SchemaData as Schema}
use Rattle.cq_theory.specs.TypeTerm.{symbols_of}
use Rattle.cq_theory.specs.Sorts.{type_of}
use Rattle.cq_theory.specs.Schema.{IsSchema, IsObsEq, one_of}
use Rattle.cq_theory.specs.Declaring.{number_or_zero}
use Rattle.cq_theory.specs.Resolve.{or_else, sort_named, symbol_of, entity_in, raw_sort, raw_symbols, has_unknown, has_wrong_count, has_reserved, is_too_large, first_fault}
use Rattle.cq_theory.specs.Resolved.{resolved, type_term_in}
use Rattle.cq_theory.specs.SchemaParts.{source_of, source_at, is_variable_alone, first_found, applied_source, variable_entity, is_unknown_entity, are_of_one_type, have_one_type, observation_fault, made_observation}
use Rattle.cq_theory.proofs.Raws.{Each, on_raws}
use Rattle.cq_theory.proofs.RawSources.{applied_source-Word, applied_source-Text, applied_source-App}
use Rattle.cq_theory.proofs.RawSymbols.{resolved-no_longer, type_part}
use Rattle.cq_theory.proofs.ResolvedSorts.{map_some, type_of-in, sort_of-resolved}
use Rattle.cq_theory.proofs.Faults.{of_five, not_false, neither, at_most, first_fault-each, made_of}
use Rattle.cq_theory.proofs.MadePaths.{key_within}

either_some : {X : Type 0} (o p : Option X) (x : X) → or_else o p ≡ Some x → (o ≡ Some x) ⊎ (p ≡ Some x)
either_some None p x h = inr h
either_some (Some y) p x h = inl h

none_is_some : (e : ℕ) → None ≡ Some e → ⊥
none_is_some e h = cc

pub some_if : {X : Type 0} (b : Bool) (o : Option X) (x : X) → cond b o None ≡ Some x → o ≡ Some x
some_if true o x h = h
some_if false o x h = cc

-- the entity of the variable where the stated one is known
entity_by : (S : Schema) (part : ObsPart) (stated : Option Name) → part.entity ≡ stated → (e : ℕ) → variable_entity S part ≡ Some e
    → elim stated [ Some name ↦ entity_in (sort_named S name) | None ↦ or_else (applied_source S part.variable part.left) (applied_source S part.variable part.right) ] ≡ Some e
entity_by S part stated is e h =
    subst (λ (o : Option Name). elim o [ Some name ↦ entity_in (sort_named S name) | None ↦ or_else (applied_source S part.variable part.left) (applied_source S part.variable part.right) ] ≡ Some e) is h

pub agrees : (e n : ℕ) (sort : Sort) → slice_get (Entity e ∷ []) n ≡ Some sort → (g : Name × Sort) × (slice_get (one_of e) n ≡ Some g) × (g.1 ≡ sort)
agrees e zero sort h = (([], Entity e), refl, (let same : Entity e ≡ sort = cc in same))
agrees e (suc n) sort h = cc

one_type : (o p : Option Sort) → are_of_one_type o p ≡ true → (type : ℕ) × (o ≡ Some (Plain type)) × (p ≡ Some (Plain type))
one_type None p h = cc
one_type (Some (Entity e)) p h = cc
one_type (Some (Plain t)) None h = cc
one_type (Some (Plain t)) (Some (Entity e)) h = cc
one_type (Some (Plain t)) (Some (Plain u)) h = (t, refl, ap (λ n. Some (Plain n)) (sym (eqb-true t u h)))

module _ (S : Schema) (schema : IsSchema S) where
  pub attribute_begins : (a : ℕ) (edge : Edge) → slice_get S.attributes a ≡ Some edge → edge.from < length S.entities
  attribute_begins a edge is =
      subst (λ (e : Edge). e.from < length S.entities) (get_or_from_slice_get S.attributes a edge edge is)
      (All-get_or (λ e. (e.from < length S.entities) × (e.to < length S.typeside.types)) S.attributes a edge (slice_get_within S.attributes a edge is) schema.attributes).0

  abbrev IsEntity : ℕ → Type 0
  IsEntity e = e < length S.entities

  source_within : (o : Option Symbol) (e : ℕ) → source_of S o ≡ Some e → IsEntity e
  source_within None e h = cc
  source_within (Some (Function f)) e h = cc
  source_within (Some (Key k)) e h = let found = map_some (λ (edge : Edge). edge.from) (slice_get S.keys k) e h in subst IsEntity found.2 (key_within S schema k found.0 found.1).0
  source_within (Some (Attribute a)) e h = let found = map_some (λ (edge : Edge). edge.from) (slice_get S.attributes a) e h in subst IsEntity found.2 (attribute_begins a found.0 found.1)

  module _ (v : Name) where
    abbrev FindsEntity : Raw → Type 0
    FindsEntity raw = (e : ℕ) → applied_source S v raw ≡ Some e → IsEntity e

    among_args : (args : List Raw) → Each FindsEntity args → (e : ℕ) → first_found (map (applied_source S v) args) ≡ Some e → IsEntity e
    among_args [] each e h = cc
    among_args (a ∷ args) each e h = elim (either_some (applied_source S v a) (first_found (map (applied_source S v) args)) e h) [
      | inl p ↦ each.0 e p
      | inr p ↦ among_args args each.1 e p
    ]

    found_within : (raw : Raw) → FindsEntity raw
    found_within = on_raws FindsEntity
        (λ n e h. let none : None ≡ Some e = sym (applied_source-Word S v n) ∙ h in absurd (none_is_some e none))
        (λ n e h. let none : None ≡ Some e = sym (applied_source-Text S v n) ∙ h in absurd (none_is_some e none))
        (λ n args each e h. elim (either_some (source_at S v n args) (first_found (map (applied_source S v) args)) e (sym (applied_source-App S v n args) ∙ h)) [
          | inl p ↦ source_within (symbol_of S n) e (some_if (is_variable_alone v args) (source_of S (symbol_of S n)) e p)
          | inr p ↦ among_args args each e p
        ])

  pub stated_within : (name : Name) (e : ℕ) → entity_in (sort_named S name) ≡ Some e → IsEntity e
  stated_within name e h = at_numbers (number_of S.typeside.types name) (number_of S.entities name) refl h
    where
      at_numbers : (o p : Option ℕ) → number_of S.entities name ≡ p → entity_in (or_else (option_map Plain o) (option_map Entity p)) ≡ Some e → IsEntity e
      at_numbers (Some t) p is h' = cc
      at_numbers None None is h' = cc
      at_numbers None (Some f) is h' = let same : f ≡ e = cc in subst IsEntity same (number_of-within S.entities name f is)

  variable_within : (part : ObsPart) (stated : Option Name) → part.entity ≡ stated → (e : ℕ) → variable_entity S part ≡ Some e → IsEntity e
  variable_within part None is e h =
      let guessed : or_else (applied_source S part.variable part.left) (applied_source S part.variable part.right) ≡ Some e = entity_by S part None is e h in
      elim (either_some (applied_source S part.variable part.left) (applied_source S part.variable part.right) e guessed) [
        | inl p ↦ found_within part.variable part.left e p
        | inr p ↦ found_within part.variable part.right e p
      ]
  variable_within part (Some name) is e h = stated_within name e (entity_by S part (Some name) is e h)

  -- a side of a type has that type when it is looked up, and at most 1,024 symbols
  pub side_type : (variable : Name) (entity type : ℕ) (raw : Raw) → has_reserved S raw ≡ false → raw_sort S (variable ∷ []) (Entity entity ∷ []) raw ≡ Some (Plain type)
      → type_of S (one_of entity) (type_term_in (resolved S (variable ∷ []) (Entity entity ∷ []) raw)) ≡ Some type
  side_type variable entity type raw free h =
      type_of-in S (one_of entity) (resolved S (variable ∷ []) (Entity entity ∷ []) raw) type
      (sort_of-resolved S (one_of entity) (variable ∷ []) (Entity entity ∷ []) (agrees entity) raw free (Plain type) h)

  pub side_fits : (names : List Name) (sorts : List Sort) (raw : Raw) → has_wrong_count S raw ≡ false → is_too_large raw ≡ false → symbols_of (type_term_in (resolved S names sorts raw)) ≤ 1024
  side_fits names sorts raw counted short =
      let a = type_part (resolved S names sorts raw) in
      let b = resolved-no_longer S names sorts raw counted in
      let c = at_most 1024 (raw_symbols raw) short in
      omega arith

  sides : (names : List Name) (o : Option ℕ) (left right : Raw) → have_one_type S names o left right ≡ true
      → (entity : ℕ) × (type : ℕ) × (o ≡ Some entity) × (raw_sort S names (Entity entity ∷ []) left ≡ Some (Plain type)) × (raw_sort S names (Entity entity ∷ []) right ≡ Some (Plain type))
  sides names None left right h = cc
  sides names (Some e) left right h = let found = one_type (raw_sort S names (Entity e ∷ []) left) (raw_sort S names (Entity e ∷ []) right) h in (e, found.0, refl, found.1, found.2)

  pub made_observation-is : (part : ObsPart) → observation_fault S part ≡ None → IsObsEq S (made_observation S part)
  unfolding observation_fault made_observation
  made_observation-is part h =
      let names : List Name = part.variable ∷ [] in
      let rules = of_five (is_unknown_entity S part.entity || has_unknown S names part.left || has_unknown S names part.right) (has_wrong_count S part.left || has_wrong_count S part.right)
      (not (have_one_type S names (variable_entity S part) part.left part.right)) (has_reserved S part.left || has_reserved S part.right) (is_too_large part.left || is_too_large part.right) Unknown WrongCount WrongSort Reserved TooLarge h in
      let counted = neither (has_wrong_count S part.left) (has_wrong_count S part.right) rules.1 in
      let found = sides names (variable_entity S part) part.left part.right (not_false _ rules.2) in
      let free = neither (has_reserved S part.left) (has_reserved S part.right) rules.3 in
      let short = neither (is_too_large part.left) (is_too_large part.right) rules.4 in
      let number : number_or_zero (variable_entity S part) ≡ found.0 = ap number_or_zero found.2 in
      record {
        type = found.1;
        left = subst (λ (e : ℕ). type_of S (one_of e) (type_term_in (resolved S names (Entity e ∷ []) part.left)) ≡ Some found.1) (sym number) (side_type part.variable found.0 found.1 part.left free.0 found.3);
        right = subst (λ (e : ℕ). type_of S (one_of e) (type_term_in (resolved S names (Entity e ∷ []) part.right)) ≡ Some found.1) (sym number) (side_type part.variable found.0 found.1 part.right free.1 found.4);
        entity = subst IsEntity (sym number) (variable_within part part.entity refl found.0 found.2);
        left_fits = side_fits names (Entity (number_or_zero (variable_entity S part)) ∷ []) part.left counted.0 short.0;
        right_fits = side_fits names (Entity (number_or_zero (variable_entity S part)) ∷ []) part.right counted.1 short.1;
      }

  pub made_observations-are : (n : ℕ) (parts : List ObsPart) (made : List ObsEq) → first_fault (observation_fault S) n parts ≡ None
      → made ≡ map (made_observation S) parts → (k : ℕ) (e : ObsEq) → slice_get made k ≡ Some e → IsObsEq S e
  made_observations-are n parts made h is k e at =
      let part = made_of (made_observation S) parts k e (ap (λ l. slice_get l k) (sym is) ∙ at) in
      subst (IsObsEq S) (sym part.2) (made_observation-is part.0 (first_fault-each (observation_fault S) n parts h k part.0 part.1))

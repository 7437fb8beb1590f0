-- Parts without faults give a mapping.
use Rattle.std.proofs.Common.{ℕ, zero, suc, Bool, true, false, not, List, [], ◌∷◌, Option, Some, None, ◌≡◌, ◌<◌, ◌≤◌, ◌+◌, ◌-◌, ◌==◌, ◌||◌, ◌⊎◌, inl, inr, if◌then◌else◌, map, take, length, get_or, refl, sym, ap, subst, ◌∙◌, arith}
use Rattle.std.specs.Prelude.{slice_get, slice_index, is_none, is_some, cond, option_map, option_and_then, All}
use Rattle.std.specs.List.{cons_option}
use Rattle.std.proofs.lemmas.Bool.{and_parts, eqb-true, eq-eqb}
use Rattle.std.proofs.lemmas.List.{length-map}
use Rattle.std.proofs.lemmas.Option.{option_and_then_some, cond_some, slice_get_within, slice_get-get_or, get_or_from_slice_get}
use Rattle.cq_base.specs.declared.name.Name.{Name}
use Rattle.cq_base.specs.Names.{number_of}
use Rattle.cq_base.proofs.Numbers.{number_of-within}
use Rattle.cq_theory.specs.declared.lookup.Symbol.TheVariants as symbol
use Rattle.cq_theory.specs.declared.refusal.TermRefusal.{TermRefusal}
use Rattle.cq_theory.specs.declared.refusal.TermRefusal.TheVariants.{Unknown, WrongCount, WrongSort, Reserved, TooLarge}
use Rattle.cq_theory.specs.declared.refusal.TheoryRefusal.{TheoryRefusal}
use Rattle.cq_theory.specs.declared.refusal.TheoryRefusal.TheVariants as theory_refusal
use Rattle.cq_theory.specs.declared.refusal.ArrowRefusal.{ArrowRefusal}
use Rattle.cq_theory.specs.declared.refusal.ArrowRefusal.TheVariants.{Missing, Memory}
use Rattle.cq_theory.specs.declared.parts.MappingParts.{MappingParts}
use Rattle.cq_theory.specs.declared.parts.ArrowPart.{ArrowPart}
use Rattle.cq_theory.specs.declared.parts.ArrowImage.{ArrowImage}
use Rattle.cq_theory.specs.declared.parts.ArrowImage.TheVariants as image
use Rattle.cq_theory.specs.declared.presentation.Sort.{Sort}
use Rattle.cq_theory.specs.declared.presentation.Sort.TheVariants.{Plain, Entity}
use Rattle.cq_theory.specs.declared.schema.Edge.{Edge}
use Rattle.cq_theory.specs.SchemaData.{SchemaData as Schema}
use Rattle.cq_theory.specs.declared.constant.Con.TheVariants.{Named}
use Rattle.cq_theory.specs.declared.term.TypeTerm.{TypeTerm}
use Rattle.cq_theory.specs.declared.term.TypeTerm.TheVariants.{Const}
use Rattle.cq_theory.specs.TypeTerm.{symbols_of, symbols_step}
use Rattle.cq_theory.specs.Sorts.{followed, target_of, type_of, type_step}
use Rattle.cq_theory.specs.Schema.{IsSchema, edge_names, one_of}
use Rattle.cq_theory.specs.ArrowRefusals.{of_arrow, first_missing}
use Rattle.cq_theory.specs.Resolve.{or_else, sort_named, symbol_of, entity_in, raw_sort, same_sort, are_of_one_sort, in_part}
use Rattle.cq_theory.specs.Declaring.{number_or_zero}
use Rattle.cq_theory.specs.Paths.{is_among, path_keys, path_start, path_end}
use Rattle.cq_theory.specs.Routes.{is_at, attribute_last, path_attribute, path_ends, ends_with, attribute_ends, start_before, path_symbols}
use Rattle.cq_theory.proofs.TypeTerms.{fold-Att}
use Rattle.cq_theory.proofs.DeclaredParts.{or_else_none, new_name, first_part_fault-each}
use Rattle.cq_theory.proofs.Faults.{of_five, not_false, at_most}
use Rattle.cq_theory.proofs.MadePaths.{path_keys-target}
use Rattle.cq_theory.proofs.MadeObservations.{stated_within, side_type, side_fits}
use Rattle.cq_theory.proofs.OnValues.{All_at}
use Rattle.cq_mapping.specs.MappingData.{MappingData as Mapping}
use Rattle.cq_mapping.specs.Images.{key_image, attribute_image}
use Rattle.cq_mapping.specs.Mapping.{IsMapping, IsKeyImage, IsAttributeImage}
use Rattle.cq_mapping.specs.MappingParts.{entity_ends_fault, entity_part_fault, entity_parts_fault, given_entities, given_arrows, made_entity, made_entities, variables_of, are_ends, has_unknown_image, has_wrong_count_image, has_reserved_image, is_too_large_image, is_stated, is_image_of_key, is_image_of_attribute, made_path, made_term, path_term, path_in, term_in, made_key, made_attribute, is_right_key, is_right_attribute, is_right, arrow_fault, arrow_part_fault, arrows_fault, arrows_and_rest_fault, made_over, mapping_fault, mapping_made}
use Rattle.cq_mapping.proofs.Named.{found_name, get_mapped, symbol_of-key, symbol_of-attribute}

no_refusal : (o : Option TheoryRefusal) → option_map of_arrow o ≡ None → o ≡ None
no_refusal None h = refl
no_refusal (Some r) h = cc

no_rule : (n : ℕ) (o : Option TermRefusal) → option_map (in_part n) o ≡ None → o ≡ None
no_rule n None h = refl
no_rule n (Some r) h = cc

some_when : (o : Option ℕ) → is_some o ≡ true → (n : ℕ) × (o ≡ Some n)
some_when None h = cc
some_when (Some n) h = (n, refl)

some_if_not_none : (o : Option ℕ) → is_none o ≡ false → (n : ℕ) × (o ≡ Some n)
some_if_not_none None h = cc
some_if_not_none (Some n) h = (n, refl)

-- each wanted name is given
given_each : (given names : List Name) → first_missing given names ≡ None → (k : ℕ) (name : Name) → slice_get names k ≡ Some name → (i : ℕ) × (number_of given name ≡ Some i)
given_each given [] h k name at = cc
given_each given (x ∷ xs) h k name at = at_test (is_among given x) refl k at h (λ rest j there. given_each given xs rest j name there)
  where
    at_test : (b : Bool) → is_among given x ≡ b → (j : ℕ) → slice_get (x ∷ xs) j ≡ Some name → cond b (first_missing given xs) (Some (Missing x)) ≡ None
        → (first_missing given xs ≡ None → (m : ℕ) → slice_get xs m ≡ Some name → (i : ℕ) × (number_of given name ≡ Some i)) → (i : ℕ) × (number_of given name ≡ Some i)
    at_test true e zero there none next = let same : x ≡ name = cc in some_when (number_of given name) (ap (is_among given) (sym same) ∙ e)
    at_test true e (suc m) there none next = next none m there
    at_test false e j there none next = cc

-- a part with a number
part_at : {X : Type 0} (name : X → Name) (parts : List X) (d : X) (wanted : Name) (i : ℕ) → number_of (map name parts) wanted ≡ Some i
    → (part : X) × (slice_get parts i ≡ Some part) × (name part ≡ wanted)
part_at name parts d wanted i h =
    let within : i < length parts = subst (λ n. i < n) (length-map parts name) (number_of-within (map name parts) wanted i h) in
    let at : slice_get parts i ≡ Some (get_or parts i d) = slice_get-get_or parts i d within in
    let here : Some (name (get_or parts i d)) ≡ Some wanted = sym (get_mapped name parts i (get_or parts i d) at) ∙ found_name (map name parts) wanted i h in
    let same : name (get_or parts i d) ≡ wanted = cc in
    (get_or parts i d, at, same)

same_plain_sort : (s : Sort) (n : ℕ) → same_sort s (Plain n) ≡ true → s ≡ Plain n
same_plain_sort (Plain m) n h = ap Plain (eqb-true m n h)
same_plain_sort (Entity m) n h = cc

same_entity_sort : (s : Sort) (n : ℕ) → same_sort s (Entity n) ≡ true → s ≡ Entity n
same_entity_sort (Plain m) n h = cc
same_entity_sort (Entity m) n h = ap Entity (eqb-true m n h)

ends_are_entity : (o : Option (ℕ × Sort)) (start end : ℕ) → are_ends o start (Entity end) ≡ true → o ≡ Some (start, Entity end)
ends_are_entity None start end h = cc
ends_are_entity (Some ends) start end h =
    let parts = and_parts (ends.0 == start) (same_sort ends.1 (Entity end)) h in
    let first : ends.0 ≡ start = eqb-true ends.0 start parts.0 in
    let second : ends.1 ≡ Entity end = same_entity_sort ends.1 end parts.1 in
    λ i. Some (first i, second i)

ends_are_type : (o : Option (ℕ × Sort)) (start type : ℕ) → are_ends o start (Plain type) ≡ true → o ≡ Some (start, Plain type)
ends_are_type None start type h = cc
ends_are_type (Some ends) start type h =
    let parts = and_parts (ends.0 == start) (same_sort ends.1 (Plain type)) h in
    let first : ends.0 ≡ start = eqb-true ends.0 start parts.0 in
    let second : ends.1 ≡ Plain type = same_plain_sort ends.1 type parts.1 in
    λ i. Some (first i, second i)

is_at-true : (e : ℕ) (o : Option ℕ) → is_at e o ≡ true → o ≡ Some e
is_at-true e None h = cc
is_at-true e (Some f) h = ap (λ n. Some n) (eqb-true f e h)

of_sort : (o : Option Sort) (sort : Sort) → are_of_one_sort o (Some sort) ≡ true → o ≡ Some sort
of_sort None sort h = cc
of_sort (Some (Plain n)) (Plain m) h = ap (λ k. Some (Plain k)) (eqb-true n m h)
of_sort (Some (Entity n)) (Entity m) h = ap (λ k. Some (Entity k)) (eqb-true n m h)
of_sort (Some (Plain n)) (Entity m) h = cc
of_sort (Some (Entity n)) (Plain m) h = cc

some_end : (n : ℕ) (o : Option ℕ) → cond (is_none o) (Some (theory_refusal.WrongSort n)) None ≡ None → (e : ℕ) × (o ≡ Some e)
some_end n None h = cc
some_end n (Some m) h = (m, refl)

entity_pair : (s : ℕ) (o : Option ℕ) (start end : ℕ) → option_map {U = ℕ × Sort} (λ (t : ℕ). (s, Entity t)) o ≡ Some (start, Entity end) → (s ≡ start) × (o ≡ Some end)
entity_pair s None start end h = cc
entity_pair s (Some t) start end h =
    let both : (s, Entity t) ≡ (start, Entity end) = cc in
    let sorts : Entity t ≡ Entity end = ap (λ (p : ℕ × Sort). p.1) both in
    let same : t ≡ end = cc in
    (ap (λ (p : ℕ × Sort). p.0) both, ap (λ n. Some n) same)

no_type_pair : (s : ℕ) (o : Option ℕ) (start type : ℕ) → option_map {U = ℕ × Sort} (λ (t : ℕ). (s, Entity t)) o ≡ Some (start, Plain type) → ⊥
no_type_pair s None start type h = cc
no_type_pair s (Some t) start type h =
    let both : (s, Entity t) ≡ (start, Plain type) = cc in
    let sorts : Entity t ≡ Plain type = ap (λ (p : ℕ × Sort). p.1) both in
    cc

module _ (T : Schema) where
  no_attribute : (o : Option Edge) (before : List Name) (start end : ℕ) → attribute_ends T o before ≡ Some (start, Entity end) → ⊥
  no_attribute None before start end h = cc
  no_attribute (Some edge) before start end h =
      option_and_then_some (λ (s : ℕ). if is_at edge.from (path_end T before s) then Some (s, Plain edge.to) else None) (start_before T edge.from before) (start, Entity end) h (λ s first rest.
      let both : (s, Plain edge.to) ≡ (start, Entity end) = (cond_some (is_at edge.from (path_end T before s)) (s, Plain edge.to) (start, Entity end) rest).1 in
      let sorts : Plain edge.to ≡ Entity end = ap (λ (p : ℕ × Sort). p.1) both in
      cc)

  attribute_of : (o : Option Edge) (before : List Name) (start type : ℕ) → attribute_ends T o before ≡ Some (start, Plain type)
      → (edge : Edge) × (o ≡ Some edge) × (edge.to ≡ type) × (path_end T before start ≡ Some edge.from)
  attribute_of None before start type h = cc
  attribute_of (Some edge) before start type h =
      option_and_then_some (λ (s : ℕ). if is_at edge.from (path_end T before s) then Some (s, Plain edge.to) else None) (start_before T edge.from before) (start, Plain type) h (λ s first rest.
      let parts = cond_some (is_at edge.from (path_end T before s)) (s, Plain edge.to) (start, Plain type) rest in
      let both : (s, Plain edge.to) ≡ (start, Plain type) = parts.1 in
      let sorts : Plain edge.to ≡ Plain type = ap (λ (p : ℕ × Sort). p.1) both in
      let same : edge.to ≡ type = cc in
      let starts : s ≡ start = ap (λ (p : ℕ × Sort). p.0) both in
      (edge, refl, same, ap (path_end T before) (sym starts) ∙ is_at-true edge.from (path_end T before s) parts.0))

  -- the foreign keys of a path to an entity lead there
  entity_path : (names : List Name) (o : Option ℕ) (start end : ℕ) → ends_with T o names ≡ Some (start, Entity end) → target_of T.keys (path_keys T names) start ≡ Some end
  entity_path names None start end h = option_and_then_some (λ (s : ℕ). option_map {U = ℕ × Sort} (λ (t : ℕ). (s, Entity t)) (path_end T names s)) (path_start T names) (start, Entity end) h (λ s first rest.
      let found = entity_pair s (path_end T names s) start end rest in
      path_keys-target T names start end (ap (path_end T names) (sym found.0) ∙ found.1))
  entity_path names (Some a) start end h = absurd (no_attribute (slice_get T.attributes a) (take (length names - 1) names) start end h)

  -- a last name that is no foreign key adds none
  front_keys : (names : List Name) (n : ℕ) (name : Name) → suc n ≡ length names → slice_get names n ≡ Some name → number_of (edge_names T.keys) name ≡ None
      → path_keys T names ≡ path_keys T (take n names)
  front_keys [] n name h at none = cc
  front_keys (x ∷ []) zero name h at none = let same : x ≡ name = cc in ap (λ o. cons_option o []) (ap (number_of (edge_names T.keys)) same ∙ none)
  front_keys (x ∷ y ∷ ys) zero name h at none = absurd (omega (arith, h))
  front_keys (x ∷ xs) (suc n) name h at none = ap (cons_option (number_of (edge_names T.keys) x)) (front_keys xs n name (omega (arith, h)) at none)

  last_no_key : (o : Option Name) (a : ℕ) → attribute_last T o ≡ Some a → (name : Name) × (o ≡ Some name) × (number_of (edge_names T.keys) name ≡ None)
  last_no_key None a h = cc
  last_no_key (Some name) a h = (name, refl, at_number (number_of (edge_names T.keys) name) h)
    where
      at_number : (o : Option ℕ) → cond (is_some o) None (number_of (edge_names T.attributes) name) ≡ Some a → o ≡ None
      at_number None e = refl
      at_number (Some k) e = cc

  -- a path to an attribute, as a term, has the attribute's type
  attribute_path : (names : List Name) (o : Option ℕ) → path_attribute T names ≡ o → (start type : ℕ) → ends_with T o names ≡ Some (start, Plain type)
      → (type_of T (one_of start) (path_term T names) ≡ Some type) × (is_some (path_attribute T names) ≡ true)
  attribute_path names None is start type h = option_and_then_some (λ (s : ℕ). option_map {U = ℕ × Sort} (λ (t : ℕ). (s, Entity t)) (path_end T names s)) (path_start T names) (start, Plain type) h (λ s first rest.
      absurd (no_type_pair s (path_end T names s) start type rest))
  attribute_path names (Some a) is start type h =
      let found = attribute_of (slice_get T.attributes a) (take (length names - 1) names) start type h in
      let last = last_no_key (slice_get names (length names - 1)) a is in
      let within : length names - 1 < length names = slice_get_within names (length names - 1) last.0 last.1 in
      let keys : path_keys T names ≡ path_keys T (take (length names - 1) names) = front_keys names (length names - 1) last.0 (omega arith) last.1 last.2 in
      let led : target_of T.keys (path_keys T names) start ≡ Some found.0.from =
      ap (λ path. target_of T.keys path start) keys ∙ path_keys-target T (take (length names - 1) names) start found.0.from found.3 in (
        fold-Att (Option ℕ) (type_step T (one_of start)) (number_or_zero (path_attribute T names)) (record { generator = 0; path = path_keys T names })
            ∙ ap (λ o. option_and_then (followed (slice_get T.attributes (number_or_zero o))) (target_of T.keys (path_keys T names) start)) is
            ∙ ap (option_and_then (followed (slice_get T.attributes a))) led ∙ ap (λ o. followed o found.0.from) found.1
            ∙ ap (λ (b : Bool). if b then Some found.0.to else None) (eq-eqb found.0.from found.0.from refl) ∙ ap (λ n. Some n) found.2,
        ap is_some is,
      )

  -- the path of a foreign key's image
  key_image_is : (given : ArrowImage) (start end : ℕ) → is_image_of_key T given start end ≡ true → is_too_large_image T given ≡ false
      → (target_of T.keys (made_path T given) start ≡ Some end) × (length (made_path T given) < 1024)
  key_image_is (image.Key names) start end h short =
      let ends = ends_are_entity (path_ends T names) start end h in
      let count : path_symbols T names ≤ 1024 = at_most 1024 (path_symbols T names) short in
      (entity_path names (path_attribute T names) start end ends, omega arith)
  key_image_is (image.Path names) start end h short = cc
  key_image_is (image.Lambda variable entity raw) start end h short = cc

  attribute_image_is : IsSchema T → (given : ArrowImage) (start type : ℕ) → is_image_of_attribute T (variables_of given) given start type ≡ true
      → has_wrong_count_image T given ≡ false → has_reserved_image T given ≡ false → is_too_large_image T given ≡ false
      → (type_of T (one_of start) (made_term T (variables_of given) start given) ≡ Some type) × (symbols_of (made_term T (variables_of given) start given) ≤ 1024)
  attribute_image_is target (image.Key names) start type h counted free short = cc
  attribute_image_is target (image.Path names) start type h counted free short =
      let ends = ends_are_type (path_ends T names) start type h in
      let found = attribute_path names (path_attribute T names) refl start type ends in
      let count : path_symbols T names ≤ 1024 = at_most 1024 (path_symbols T names) short in
      let one : path_symbols T names ≡ length (path_keys T names) + 1 + 1 = ap (λ (b : Bool). length (path_keys T names) + 1 + (if b then 1 else 0)) found.1 in
      let symbols : symbols_of (path_term T names) ≡ length (path_keys T names) + 1 + 1
      = fold-Att ℕ symbols_step (number_or_zero (path_attribute T names)) (record { generator = 0; path = path_keys T names }) in
      (found.0, omega arith)
  attribute_image_is target (image.Lambda variable entity raw) start type h counted free short =
      let parts = and_parts (is_stated T entity start) (are_of_one_sort (raw_sort T (variable ∷ []) (Entity start ∷ []) raw) (Some (Plain type))) h in
      let sorted = of_sort (raw_sort T (variable ∷ []) (Entity start ∷ []) raw) (Plain type) parts.1 in
      (side_type T target variable start type raw free sorted, side_fits T target (variable ∷ []) (Entity start ∷ []) raw counted short)

module _ (S T : Schema) (source : IsSchema S) (target : IsSchema T) where
  arrow_rules : (images : List ℕ) (part : ArrowPart) → arrow_fault S T images part ≡ None
      → (has_wrong_count_image T part.image ≡ false) × (is_right S T images (variables_of part.image) (symbol_of S part.name) (entity_in (sort_named S part.block)) part.image ≡ true)
      × (has_reserved_image T part.image ≡ false) × (is_too_large_image T part.image ≡ false)
  unfolding arrow_fault
  arrow_rules images part h =
      let rules = of_five (is_none (sort_named S part.block) || is_none (symbol_of S part.name) || has_unknown_image T (variables_of part.image) part.image) (has_wrong_count_image T part.image)
      (not (is_right S T images (variables_of part.image) (symbol_of S part.name) (entity_in (sort_named S part.block)) part.image)) (has_reserved_image T part.image) (is_too_large_image T part.image) Unknown WrongCount WrongSort Reserved TooLarge h in
      (rules.1, not_false _ rules.2, rules.3, rules.4)

  arrows_right : (images : List ℕ) (n : ℕ) (arrows : List ArrowPart) → arrows_fault S T images n arrows ≡ None → (i : ℕ) (part : ArrowPart) → slice_get arrows i ≡ Some part → arrow_fault S T images part ≡ None
  arrows_right images n arrows h i part at =
      All_at (λ part. arrow_fault S T images part ≡ None) arrows i part
      (first_part_fault-each (λ part. part.name) (arrow_part_fault S T images) (λ part. arrow_fault S T images part ≡ None)
      (λ earlier m x none. no_rule m (arrow_fault S T images x) (new_name earlier m x.name (option_map (in_part m) (arrow_fault S T images x)) none).1) [] n arrows h) at

  no_part : ArrowPart
  no_part = record { block = []; name = []; image = image.Key [] }

  module _ (images : List ℕ) (n : ℕ) (arrows : List ArrowPart) (none : arrows_and_rest_fault S T images n arrows ≡ None) where
    rest : (option_map of_arrow (arrows_fault S T images n arrows) ≡ None)
        × (or_else (first_missing (given_arrows arrows) (edge_names S.keys)) (first_missing (given_arrows arrows) (edge_names S.attributes)) ≡ None)
    rest = or_else_none (option_map of_arrow (arrows_fault S T images n arrows)) (or_else (first_missing (given_arrows arrows) (edge_names S.keys)) (first_missing (given_arrows arrows) (edge_names S.attributes))) none

    missing : (first_missing (given_arrows arrows) (edge_names S.keys) ≡ None) × (first_missing (given_arrows arrows) (edge_names S.attributes) ≡ None)
    missing = or_else_none (first_missing (given_arrows arrows) (edge_names S.keys)) (first_missing (given_arrows arrows) (edge_names S.attributes)) rest.1

    abbrev F : Mapping
    F = made_over S T images arrows

    made_key_is : (k : ℕ) (edge : Edge) → slice_get S.keys k ≡ Some edge → IsKeyImage F edge (key_image F k)
    made_key_is k edge at =
        let number = given_each (given_arrows arrows) (edge_names S.keys) missing.0 k edge.name (get_mapped (λ (e : Edge). e.name) S.keys k edge at) in
        let part = part_at (λ (p : ArrowPart). p.name) arrows no_part edge.name number.0 number.1 in
        let rules = arrow_rules images part.0 (arrows_right images n arrows (no_refusal _ rest.0) number.0 part.0 part.1) in
        let named : symbol_of S part.0.name ≡ Some (symbol.Key k) = ap (symbol_of S) part.2 ∙ symbol_of-key S source k edge at in
        let right : is_right_key T images (Some edge) (entity_in (sort_named S part.0.block)) part.0.image ≡ true =
        ap (λ o. is_right_key T images o (entity_in (sort_named S part.0.block)) part.0.image) (sym at)
        ∙ ap (λ o. is_right S T images (variables_of part.0.image) o (entity_in (sort_named S part.0.block)) part.0.image) (sym named) ∙ rules.1 in
        let parts = and_parts (is_at edge.from (entity_in (sort_named S part.0.block))) (is_image_of_key T part.0.image (slice_index images edge.from) (slice_index images edge.to)) right in
        let image_is = key_image_is T part.0.image (slice_index images edge.from) (slice_index images edge.to) parts.1 rules.3 in
        let made : key_image F k ≡ made_path T part.0.image =
        get_or_from_slice_get (map (made_key T (given_arrows arrows) arrows) S.keys) k (made_key T (given_arrows arrows) arrows edge) [] (get_mapped (made_key T (given_arrows arrows) arrows) S.keys k edge at)
        ∙ ap (λ o. path_in T (option_and_then (slice_get arrows) o)) number.1 ∙ ap (path_in T) part.1 in
        record {
          leads = ap (λ path. target_of T.keys path (slice_index images edge.from)) made ∙ image_is.0;
          fits = subst (λ (path : List ℕ). length path < 1024) (sym made) image_is.1;
        }

    made_attribute_is : (a : ℕ) (edge : Edge) → slice_get S.attributes a ≡ Some edge → IsAttributeImage F edge (attribute_image F a)
    made_attribute_is a edge at =
        let start : ℕ = slice_index images edge.from in
        let number = given_each (given_arrows arrows) (edge_names S.attributes) missing.1 a edge.name (get_mapped (λ (e : Edge). e.name) S.attributes a edge at) in
        let part = part_at (λ (p : ArrowPart). p.name) arrows no_part edge.name number.0 number.1 in
        let rules = arrow_rules images part.0 (arrows_right images n arrows (no_refusal _ rest.0) number.0 part.0 part.1) in
        let named : symbol_of S part.0.name ≡ Some (symbol.Attribute a) = ap (symbol_of S) part.2 ∙ symbol_of-attribute S source a edge at in
        let right : is_right_attribute T images (variables_of part.0.image) (Some edge) (entity_in (sort_named S part.0.block)) part.0.image ≡ true =
        ap (λ o. is_right_attribute T images (variables_of part.0.image) o (entity_in (sort_named S part.0.block)) part.0.image) (sym at)
        ∙ ap (λ o. is_right S T images (variables_of part.0.image) o (entity_in (sort_named S part.0.block)) part.0.image) (sym named) ∙ rules.1 in
        let parts = and_parts (is_at edge.from (entity_in (sort_named S part.0.block))) (is_image_of_attribute T (variables_of part.0.image) part.0.image start edge.to) right in
        let image_is = attribute_image_is T target part.0.image start edge.to parts.1 rules.0 rules.2 rules.3 in
        let made : attribute_image F a ≡ made_term T (variables_of part.0.image) start part.0.image =
        get_or_from_slice_get (map (made_attribute T images (given_arrows arrows) arrows) S.attributes) a (made_attribute T images (given_arrows arrows) arrows edge) (Const (Named 0))
        (get_mapped (made_attribute T images (given_arrows arrows) arrows) S.attributes a edge at)
        ∙ ap (λ o. term_in T start (option_and_then (slice_get arrows) o)) number.1 ∙ ap (term_in T start) part.1 in
        record {
          typed = ap (type_of T (one_of start)) made ∙ image_is.0;
          fits = subst (λ (t : TypeTerm). symbols_of t ≤ 1024) (sym made) image_is.1;
        }

  -- the images of entities are entities
  part_ends : (n : ℕ) (part : Name × Name) → entity_ends_fault S T n part ≡ None → (e : ℕ) × (entity_in (sort_named T part.1) ≡ Some e)
  part_ends n part h = at_tests (is_none (sort_named S part.0) || is_none (sort_named T part.1)) (is_none (entity_in (sort_named S part.0))) h
    where
      at_tests : (a b : Bool) → cond a (Some (theory_refusal.Unknown n)) (cond (b || is_none (entity_in (sort_named T part.1))) (Some (theory_refusal.WrongSort n)) None) ≡ None
          → (e : ℕ) × (entity_in (sort_named T part.1) ≡ Some e)
      at_tests true b e = cc
      at_tests false true e = cc
      at_tests false false e = some_end n (entity_in (sort_named T part.1)) e

  module _ (parts : List (Name × Name)) (right : entity_parts_fault S T parts ≡ None) (whole : first_missing (given_entities parts) S.entities ≡ None) where
    each_entity : All (λ (part : Name × Name). (e : ℕ) × (entity_in (sort_named T part.1) ≡ Some e)) parts
    each_entity = first_part_fault-each (λ (part : Name × Name). part.0) (entity_part_fault S T) (λ part. (e : ℕ) × (entity_in (sort_named T part.1) ≡ Some e))
        (λ earlier m part none. part_ends m part (new_name earlier m part.0 (entity_ends_fault S T m part) none).1) [] 0 parts right

    entity_within : (k : ℕ) (name : Name) → slice_get S.entities k ≡ Some name → made_entity T (given_entities parts) parts name < length T.entities
    entity_within k name at =
        let number = given_each (given_entities parts) S.entities whole k name at in
        let part = part_at (λ (p : Name × Name). p.0) parts ([], []) name number.0 number.1 in
        let e = All_at (λ (p : Name × Name). (e : ℕ) × (entity_in (sort_named T p.1) ≡ Some e)) parts number.0 part.0 each_entity part.1 in
        let made : made_entity T (given_entities parts) parts name ≡ e.0 =
        ap (λ o. number_or_zero (option_and_then (λ (p : Name × Name). entity_in (sort_named T p.1)) (option_and_then (slice_get parts) o))) number.1
        ∙ ap (λ o. number_or_zero (option_and_then (λ (p : Name × Name). entity_in (sort_named T p.1)) o)) part.1 ∙ ap number_or_zero e.1 in
        subst (λ m. m < length T.entities) (sym made) (stated_within T target part.0.1 e.0 e.1)

    entities_within : All (λ e. e < length T.entities) (made_entities S T parts)
    entities_within k d h =
        let within : k < length S.entities = subst (λ m. k < m) (length-map S.entities (made_entity T (given_entities parts) parts)) h in
        let at : slice_get S.entities k ≡ Some (get_or S.entities k []) = slice_get-get_or S.entities k [] within in
        let made = get_or_from_slice_get (made_entities S T parts) k (made_entity T (given_entities parts) parts (get_or S.entities k [])) d (get_mapped (made_entity T (given_entities parts) parts) S.entities k (get_or S.entities k []) at) in
        subst (λ m. m < length T.entities) (sym made) (entity_within k (get_or S.entities k []) at)

  -- parts without faults give a mapping
  pub mapping_made-is : (parts : MappingParts) → S.typeside ≡ T.typeside → mapping_fault S T parts ≡ None → IsMapping (mapping_made S T parts)
  mapping_made-is parts typeside none =
      let images : List ℕ = made_entities S T parts.entities in
      let first = or_else_none (option_map of_arrow (entity_parts_fault S T parts.entities))
      (or_else (first_missing (given_entities parts.entities) S.entities) (arrows_and_rest_fault S T images (length parts.entities) parts.arrows)) none in
      let second = or_else_none (first_missing (given_entities parts.entities) S.entities) (arrows_and_rest_fault S T images (length parts.entities) parts.arrows) first.1 in
      record {
        source = source;
        target = target;
        typeside = typeside;
        entities = length-map S.entities (made_entity T (given_entities parts.entities) parts.entities);
        keys = length-map S.keys (made_key T (given_arrows parts.arrows) parts.arrows);
        attributes = length-map S.attributes (made_attribute T images (given_arrows parts.arrows) parts.arrows);
        entity_images = entities_within parts.entities (no_refusal _ first.0) second.0;
        key_images = made_key_is images (length parts.entities) parts.arrows second.1;
        attribute_images = made_attribute_is images (length parts.entities) parts.arrows second.1;
      }

module _ (S T : Schema) (parts : MappingParts) (entities : List (Name × Name)) (arrows : List ArrowPart) (images : List ℕ) (first : ℕ)
    (same_entities : entities ≡ parts.entities) (same_arrows : arrows ≡ parts.arrows) (same_first : first ≡ length parts.entities)
    (right : (entity_parts_fault S T entities ≡ None) × (first_missing (given_entities entities) S.entities ≡ None)) (same_images : images ≡ made_entities S T entities) where
  arrows_next : arrows_and_rest_fault S T (made_entities S T parts.entities) (length parts.entities) parts.arrows ≡ arrows_and_rest_fault S T images first arrows
  arrows_next =
      let all_images : images ≡ made_entities S T parts.entities = same_images ∙ ap (made_entities S T) same_entities in
      λ i. arrows_and_rest_fault S T (sym all_images i) (sym same_first i) (sym same_arrows i)

  -- the fault of the parts is that of those after the entities
  pub mapping_fault-after : mapping_fault S T parts ≡ arrows_and_rest_fault S T images first arrows
  mapping_fault-after =
      ap (λ l. or_else (option_map of_arrow (entity_parts_fault S T l)) (or_else (first_missing (given_entities l) S.entities) (arrows_and_rest_fault S T (made_entities S T parts.entities) (length parts.entities) parts.arrows))) (sym same_entities)
      ∙ ap (λ o. or_else (option_map of_arrow o) (or_else (first_missing (given_entities entities) S.entities) (arrows_and_rest_fault S T (made_entities S T parts.entities) (length parts.entities) parts.arrows))) right.0
      ∙ ap (λ o. or_else o (arrows_and_rest_fault S T (made_entities S T parts.entities) (length parts.entities) parts.arrows)) right.1
      ∙ arrows_next

  module _ (keys : List (List ℕ)) (attributes : List TypeTerm)
      (made : (keys ≡ map (made_key T (given_arrows arrows) arrows) S.keys) × (attributes ≡ map (made_attribute T images (given_arrows arrows) arrows) S.attributes)) where
    -- the lists are those of the mapping that the parts give
    pub mapping_whole : (record { source = S; target = T; entities = images; keys = keys; attributes = attributes }) ≡ mapping_made S T parts
    mapping_whole =
        let all_images : images ≡ made_entities S T parts.entities = same_images ∙ ap (made_entities S T) same_entities in
        let all_keys : keys ≡ map (made_key T (given_arrows parts.arrows) parts.arrows) S.keys = made.0 ∙ ap (λ l. map (made_key T (given_arrows l) l) S.keys) same_arrows in
        let all_attributes : attributes ≡ map (made_attribute T (made_entities S T parts.entities) (given_arrows parts.arrows) parts.arrows) S.attributes =
        made.1 ∙ λ i. map (made_attribute T (all_images i) (given_arrows (same_arrows i)) (same_arrows i)) S.attributes in
        λ i. record { source = S; target = T; entities = all_images i; keys = all_keys i; attributes = all_attributes i }

    pub mapping_whole-is : IsSchema S → IsSchema T → S.typeside ≡ T.typeside → arrows_and_rest_fault S T images first arrows ≡ None
        → IsMapping (record { source = S; target = T; entities = images; keys = keys; attributes = attributes })
    mapping_whole-is source target typeside none = subst IsMapping (sym mapping_whole) (mapping_made-is S T source target parts typeside (mapping_fault-after ∙ none))

either_first : {X : Type 0} (a b c : Option X) (x : X) → or_else a b ≡ Some x → or_else a (or_else b c) ≡ Some x
either_first None None c x h = cc
either_first None (Some y) c x h = h
either_first (Some y) b c x h = h

-- a refusal of the parts of entities is one of the parts
pub refused_first : (S T : Schema) (parts : MappingParts) (entities : List (Name × Name)) → entities ≡ parts.entities → (refusal : ArrowRefusal)
    → (refusal ≡ Memory) ⊎ (or_else (option_map of_arrow (entity_parts_fault S T entities)) (first_missing (given_entities entities) S.entities) ≡ Some refusal)
    → (refusal ≡ Memory) ⊎ (mapping_fault S T parts ≡ Some refusal)
refused_first S T parts entities same refusal (inl h) = inl h
refused_first S T parts entities same refusal (inr h) =
    let here : or_else (option_map of_arrow (entity_parts_fault S T parts.entities)) (first_missing (given_entities parts.entities) S.entities) ≡ Some refusal =
    ap (λ l. or_else (option_map of_arrow (entity_parts_fault S T l)) (first_missing (given_entities l) S.entities)) (sym same) ∙ h in
    inr (either_first (option_map of_arrow (entity_parts_fault S T parts.entities)) (first_missing (given_entities parts.entities) S.entities)
    (arrows_and_rest_fault S T (made_entities S T parts.entities) (length parts.entities) parts.arrows) refusal here)

-- a refusal of the other parts is one of the parts
pub refused_after : (S T : Schema) (parts : MappingParts) (fault : Option ArrowRefusal) → mapping_fault S T parts ≡ fault → (refusal : ArrowRefusal)
    → (refusal ≡ Memory) ⊎ (fault ≡ Some refusal) → (refusal ≡ Memory) ⊎ (mapping_fault S T parts ≡ Some refusal)
refused_after S T parts fault same refusal (inl h) = inl h
refused_after S T parts fault same refusal (inr h) = inr (same ∙ h)

-- The same where the schemas are read several times.
module _ (S T S₁ T₁ S₂ T₂ : Schema) (parts : MappingParts) (entities : List (Name × Name)) (arrows : List ArrowPart) (items images : List ℕ) (first : ℕ)
    (source₁ : S₁ ≡ S) (target₁ : T₁ ≡ T) (source₂ : S₂ ≡ S) (target₂ : T₂ ≡ T)
    (same_entities : entities ≡ parts.entities) (same_arrows : arrows ≡ parts.arrows) (same_first : first ≡ length parts.entities)
    (right : (entity_parts_fault S₁ T₁ entities ≡ None) × (first_missing (given_entities entities) S₁.entities ≡ None)) (same_items : items ≡ made_entities S₁ T₁ entities) (same_images : images ≡ items) where
  right_here : (entity_parts_fault S T entities ≡ None) × (first_missing (given_entities entities) S.entities ≡ None)
  right_here =
      let Right : Schema × Schema → Type 0 = λ x. (entity_parts_fault x.0 x.1 entities ≡ None) × (first_missing (given_entities entities) x.0.entities ≡ None) in
      let both : (S₁, T₁) ≡ (S, T) = λ i. (source₁ i, target₁ i) in
      subst Right both right

  items_here : items ≡ made_entities S T entities
  items_here = same_items ∙ λ i. made_entities (source₁ i) (target₁ i) entities

  pub new_fault : mapping_fault S T parts ≡ arrows_and_rest_fault S₂ T₂ images first arrows
  new_fault =
      mapping_fault-after S T parts entities arrows images first same_entities same_arrows same_first right_here (same_images ∙ items_here)
      ∙ λ i. arrows_and_rest_fault (sym source₂ i) (sym target₂ i) images first arrows

  module _ (own : List ℕ) (keys : List (List ℕ)) (attributes : List TypeTerm) (own_are : own ≡ items)
      (keys_are : keys ≡ map (made_key T₂ (given_arrows arrows) arrows) S₂.keys) (attributes_are : attributes ≡ map (made_attribute T₂ images (given_arrows arrows) arrows) S₂.attributes) where
    pub new_made : (record { source = S; target = T; entities = own; keys = keys; attributes = attributes }) ≡ mapping_made S T parts
    new_made = mapping_whole S T parts entities arrows own first same_entities same_arrows same_first right_here (own_are ∙ items_here) keys attributes (
      keys_are ∙ λ i. map (made_key (target₂ i) (given_arrows arrows) arrows) (source₂ i).keys,
      attributes_are ∙ (λ i. map (made_attribute (target₂ i) (same_images i) (given_arrows arrows) arrows) (source₂ i).attributes) ∙ λ i. map (made_attribute T (sym own_are i) (given_arrows arrows) arrows) S.attributes,
    )

    pub new_is : IsSchema S → IsSchema T → S.typeside ≡ T.typeside → arrows_and_rest_fault S₂ T₂ images first arrows ≡ None
        → IsMapping (record { source = S; target = T; entities = own; keys = keys; attributes = attributes })
    new_is source target typeside none = subst IsMapping (sym new_made) (mapping_made-is S T source target parts typeside (new_fault ∙ none))

pub new_refused : (S T S₁ T₁ : Schema) (parts : MappingParts) (entities : List (Name × Name)) → S₁ ≡ S → T₁ ≡ T → entities ≡ parts.entities → (refusal : ArrowRefusal)
    → (refusal ≡ Memory) ⊎ (or_else (option_map of_arrow (entity_parts_fault S₁ T₁ entities)) (first_missing (given_entities entities) S₁.entities) ≡ Some refusal)
    → (refusal ≡ Memory) ⊎ (mapping_fault S T parts ≡ Some refusal)
new_refused S T S₁ T₁ parts entities source target same refusal h =
    let Told : Schema × Schema → Type 0 = λ x.
    (refusal ≡ Memory) ⊎ (or_else (option_map of_arrow (entity_parts_fault x.0 x.1 entities)) (first_missing (given_entities entities) x.0.entities) ≡ Some refusal) in
    let both : (S₁, T₁) ≡ (S, T) = λ i. (source i, target i) in
    refused_first S T parts entities same refusal (subst Told both h)

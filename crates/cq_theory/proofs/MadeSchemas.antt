-- The schema that parts without faults give is well sorted, list after list.
use Rattle.std.proofs.Common.{ℕ, Bool, true, false, List, [], ◌∷◌, ◌++◌, Option, Some, None, ◌≡◌, ◌<◌, ◌+◌, ◌^◌, ◌||◌, ◌⊎◌, inl, inr, map, length, refl, sym, ap, subst, ◌∙◌, arith}
use Rattle.std.specs.Prelude.{is_none, All, cond, slice_get, option_map}
use Rattle.std.specs.List.{IsDistinct, AllByRecursion}
use Rattle.std.proofs.lemmas.List.{length-map, append-nil}
use Rattle.std.proofs.lemmas.List.Elements.{All-nil, All-map}
use Rattle.cq_base.specs.declared.name.Name.{Name}
use Rattle.cq_base.specs.Names.{same_name, number_of, AreDistinct}
use Rattle.cq_base.proofs.Numbers.{number_of-within}
use Rattle.cq_theory.specs.declared.refusal.TheoryRefusal.{TheoryRefusal}
use Rattle.cq_theory.specs.declared.refusal.TheoryRefusal.TheVariants.{Unknown, WrongSort, Memory}
use Rattle.cq_theory.specs.declared.parts.ObsPart.{ObsPart}
use Rattle.cq_theory.specs.declared.parts.SchemaParts.{SchemaParts}
use Rattle.cq_theory.specs.declared.presentation.Sort.TheVariants.{Plain, Entity}
use Rattle.cq_theory.specs.declared.schema.Edge.{Edge}
use Rattle.cq_theory.specs.declared.schema.PathEq.{PathEq}
use Rattle.cq_theory.specs.declared.schema.ObsEq.{ObsEq}
use Rattle.cq_theory.specs.declared.term.TypeTerm.{TypeTerm}
use Rattle.cq_theory.specs.declared.term.TypeTerm.TheOpen as layer
use Rattle.cq_theory.specs.declared.term.TypeTerm.TheFolds.{fold-TypeTerm}
use Rattle.cq_theory.specs.SchemaData.{SchemaData as Schema}
use Rattle.cq_theory.specs.TypesideData.{TypesideData as Typeside}
use Rattle.cq_theory.specs.Typeside.{IsTypeside, function_names}
use Rattle.cq_theory.specs.Schema.{IsSchema, IsPathEq, IsObsEq, edge_names, one_of}
use Rattle.cq_theory.specs.Sorts.{Generators, target_of, type_of, type_step}
use Rattle.cq_theory.specs.Declaring.{number_or_zero}
use Rattle.cq_theory.specs.Resolve.{or_else, entity_in, type_in}
use Rattle.cq_theory.specs.SchemaParts.{entity_fault, key_fault, attribute_fault, has_unknown_end, entity_named, type_named, made_key, made_attribute, part_names, entities_fault, keys_fault, path_eqs_fault, attributes_fault, observations_fault, started, rest_fault, completed, schema_fault, schema_made, made_observation}
use Rattle.cq_theory.specs.Paths.{is_among, made_path_eq}
use Rattle.cq_theory.proofs.DeclaredParts.{or_else_none, new_name, first_part_fault-distinct, first_part_fault-each}
use Rattle.cq_theory.proofs.Faults.{neither}
use Rattle.cq_theory.proofs.MadePaths.{made_path_eqs-are}
use Rattle.cq_theory.proofs.MadeObservations.{made_observations-are}

entity_known : (T : Typeside) (entities : List Name) (name : Name) → is_none (entity_named T entities name) ≡ false → number_or_zero (entity_named T entities name) < length entities
entity_known T entities name h = at_numbers (number_of T.types name) (number_of entities name) refl h
  where
    at_numbers : (o p : Option ℕ) → number_of entities name ≡ p → is_none (entity_in (or_else (option_map Plain o) (option_map Entity p))) ≡ false
        → number_or_zero (entity_in (or_else (option_map Plain o) (option_map Entity p))) < length entities
    at_numbers (Some t) p is h' = cc
    at_numbers None None is h' = cc
    at_numbers None (Some e) is h' = number_of-within entities name e is

type_known : (T : Typeside) (entities : List Name) (name : Name) → is_none (type_named T entities name) ≡ false → number_or_zero (type_named T entities name) < length T.types
type_known T entities name h = at_numbers (number_of T.types name) (number_of entities name) refl h
  where
    at_numbers : (o p : Option ℕ) → number_of T.types name ≡ o → is_none (type_in (or_else (option_map Plain o) (option_map Entity p))) ≡ false
        → number_or_zero (type_in (or_else (option_map Plain o) (option_map Entity p))) < length T.types
    at_numbers (Some t) p is h' = number_of-within T.types name t is
    at_numbers None None is h' = cc
    at_numbers None (Some e) is h' = cc

of_two : {X : Type 0} (a b : Bool) (x y : X) → cond a (Some x) (cond b (Some y) None) ≡ None → (a ≡ false) × (b ≡ false)
of_two true b x y h = cc
of_two false true x y h = cc
of_two false false x y h = (refl, refl)

map_itself : (names : List Name) → map (λ name. name) names ≡ names
map_itself [] = refl
map_itself (name ∷ names) = ap (λ rest. name ∷ rest) (map_itself names)

module _ (T : Typeside) (entities : List Name) where
  names_of_keys : (parts : List (Name × Name × Name)) → edge_names (map (made_key T entities) parts) ≡ part_names parts
  names_of_keys [] = refl
  names_of_keys (part ∷ parts) = ap (λ names. part.0 ∷ names) (names_of_keys parts)

  names_of_attributes : (parts : List (Name × Name × Name)) → edge_names (map (made_attribute T entities) parts) ≡ part_names parts
  names_of_attributes [] = refl
  names_of_attributes (part ∷ parts) = ap (λ names. part.0 ∷ names) (names_of_attributes parts)

  key_rules : (earlier : List Name) (n : ℕ) (part : Name × Name × Name) → key_fault T entities earlier n part ≡ None
      → (is_none (entity_named T entities part.1) ≡ false) × (is_none (entity_named T entities part.2) ≡ false)
  key_rules earlier n part h =
      let rules = of_two (has_unknown_end T entities part.1 part.2) (is_none (entity_named T entities part.1) || is_none (entity_named T entities part.2)) (Unknown n) (WrongSort n) (new_name earlier n part.0 _ h).1 in
      neither _ _ rules.1

  attribute_rules : (earlier : List Name) (n : ℕ) (part : Name × Name × Name) → attribute_fault T entities earlier n part ≡ None
      → (is_none (entity_named T entities part.1) ≡ false) × (is_none (type_named T entities part.2) ≡ false)
  attribute_rules earlier n part h =
      let rules = of_two (has_unknown_end T entities part.1 part.2) (is_none (entity_named T entities part.1) || is_none (type_named T entities part.2)) (Unknown n) (WrongSort n) (new_name earlier n part.0 _ h).1 in
      neither _ _ rules.1

  pub started-is : (n : ℕ) (keys : List (Name × Name × Name)) → IsTypeside T → length entities + length keys < 2 ^ 32
      → entities_fault T entities ≡ None → keys_fault T entities n keys ≡ None → IsSchema (started T entities keys)
  started-is n keys typeside few first second = record {
    typeside = typeside;
    entity_numbers = omega arith;
    key_numbers = simp length-map (omega arith);
    attribute_numbers = omega arith;
    distinct_sorts = subst (λ (l : List Name). AreDistinct (T.types ++ l)) (map_itself entities)
        (first_part_fault-distinct (λ name. name) entity_fault (λ earlier n name e. (new_name earlier n name None e).0) T.types 0 entities typeside.distinct_types first);
    distinct_symbols = subst AreDistinct (ap (λ l. function_names T ++ l) (sym (names_of_keys keys)) ∙ sym (append-nil (function_names T ++ edge_names (map (made_key T entities) keys))))
        (first_part_fault-distinct (λ part. part.0) (key_fault T entities) (λ earlier n part e. (new_name earlier n part.0 _ e).0) (function_names T) n keys typeside.distinct_functions second);
    keys = All-map (λ edge. (edge.from < length entities) × (edge.to < length entities)) (made_key T entities) keys
        (first_part_fault-each (λ part. part.0) (key_fault T entities)
        (λ part. (number_or_zero (entity_named T entities part.1) < length entities) × (number_or_zero (entity_named T entities part.2) < length entities))
        (λ earlier n part e. let rules = key_rules earlier n part e in (entity_known T entities part.1 rules.0, entity_known T entities part.2 rules.1)) (function_names T) n keys second);
    attributes = All-nil _;
    path_eqs = λ n e is. cc;
    obs_eqs = λ n e is. cc;
  }

none_there : (obs_eqs : List ObsEq) → obs_eqs ≡ [] → (m : ℕ) (e : ObsEq) → slice_get obs_eqs m ≡ Some e → ⊥
none_there [] is m e at = cc
none_there (o ∷ os) is m e at = cc

all_front : {X : Type 0} (P : X → Type 0) (xs ys : List X) → AllByRecursion P (xs ++ ys) → AllByRecursion P xs
all_front P [] ys h = tt
all_front P (x ∷ xs) ys h = (h.0, all_front P xs ys h.1)

distinct_front : (xs ys : List Name) → AreDistinct (xs ++ ys) → AreDistinct xs
unfolding IsDistinct
distinct_front [] ys h = tt
distinct_front (x ∷ xs) ys h = (all_front (λ y. same_name x y ≡ false) xs ys h.0, distinct_front xs ys h.1)

module _ (S : Schema) (schema : IsSchema S) where
  abbrev with_these_path_eqs : List PathEq → Schema
  with_these_path_eqs path_eqs = record { typeside = S.typeside; entities = S.entities; keys = S.keys; attributes = S.attributes; path_eqs = path_eqs; obs_eqs = S.obs_eqs }

  abbrev with_these_attributes : List Edge → Schema
  with_these_attributes attributes = record { typeside = S.typeside; entities = S.entities; keys = S.keys; attributes = attributes; path_eqs = S.path_eqs; obs_eqs = S.obs_eqs }

  abbrev with_these_observations : List ObsEq → Schema
  with_these_observations obs_eqs = record { typeside = S.typeside; entities = S.entities; keys = S.keys; attributes = S.attributes; path_eqs = S.path_eqs; obs_eqs = obs_eqs }

  same_path_eq : (T : Schema) (e : PathEq) → S.keys ≡ T.keys → S.entities ≡ T.entities → IsPathEq S e → IsPathEq T e
  same_path_eq T e k f p = record {
    target = p.target;
    left = ap (λ l. target_of l e.left e.entity) (sym k) ∙ p.left;
    right = ap (λ l. target_of l e.right e.entity) (sym k) ∙ p.right;
    entity = subst (λ (l : List Name). e.entity < length l) f p.entity;
    left_fits = p.left_fits;
    right_fits = p.right_fits;
  }

  -- types don't depend on the equations
  same_step : (path_eqs : List PathEq) (obs_eqs : List ObsEq) (G : Generators) (x : layer.TypeTerm-F (Option ℕ))
      → type_step S G x ≡ type_step (record { typeside = S.typeside; entities = S.entities; keys = S.keys; attributes = S.attributes; path_eqs = path_eqs; obs_eqs = obs_eqs }) G x
  same_step path_eqs obs_eqs G (layer.Gen n) = refl
  same_step path_eqs obs_eqs G (layer.Const c) = refl
  same_step path_eqs obs_eqs G (layer.Att a t) = refl
  same_step path_eqs obs_eqs G (layer.Fun f types) = refl

  same_type : (path_eqs : List PathEq) (obs_eqs : List ObsEq) (G : Generators) (t : TypeTerm)
      → type_of S G t ≡ type_of (record { typeside = S.typeside; entities = S.entities; keys = S.keys; attributes = S.attributes; path_eqs = path_eqs; obs_eqs = obs_eqs }) G t
  same_type path_eqs obs_eqs G t = λ i. fold-TypeTerm (Option ℕ) (λ x. same_step path_eqs obs_eqs G x i) t

  same_observation : (path_eqs : List PathEq) (obs_eqs : List ObsEq) (e : ObsEq) → IsObsEq S e
      → IsObsEq (record { typeside = S.typeside; entities = S.entities; keys = S.keys; attributes = S.attributes; path_eqs = path_eqs; obs_eqs = obs_eqs }) e
  same_observation path_eqs obs_eqs e o = record {
    type = o.type;
    left = sym (same_type path_eqs obs_eqs (one_of e.entity) e.left) ∙ o.left;
    right = sym (same_type path_eqs obs_eqs (one_of e.entity) e.right) ∙ o.right;
    entity = o.entity;
    left_fits = o.left_fits;
    right_fits = o.right_fits;
  }

  pub with_path_eqs-is : (path_eqs : List PathEq) → ((n : ℕ) (e : PathEq) → slice_get path_eqs n ≡ Some e → IsPathEq S e) → IsSchema (with_these_path_eqs path_eqs)
  with_path_eqs-is path_eqs each = record {
    typeside = schema.typeside;
    entity_numbers = schema.entity_numbers;
    key_numbers = schema.key_numbers;
    attribute_numbers = schema.attribute_numbers;
    distinct_sorts = schema.distinct_sorts;
    distinct_symbols = schema.distinct_symbols;
    keys = schema.keys;
    attributes = schema.attributes;
    path_eqs = λ n e is. same_path_eq (with_these_path_eqs path_eqs) e refl refl (each n e is);
    obs_eqs = λ n e is. same_observation path_eqs S.obs_eqs e (schema.obs_eqs n e is);
  }

  pub with_observations-is : (obs_eqs : List ObsEq) → ((n : ℕ) (e : ObsEq) → slice_get obs_eqs n ≡ Some e → IsObsEq S e) → IsSchema (with_these_observations obs_eqs)
  with_observations-is obs_eqs each = record {
    typeside = schema.typeside;
    entity_numbers = schema.entity_numbers;
    key_numbers = schema.key_numbers;
    attribute_numbers = schema.attribute_numbers;
    distinct_sorts = schema.distinct_sorts;
    distinct_symbols = schema.distinct_symbols;
    keys = schema.keys;
    attributes = schema.attributes;
    path_eqs = λ n e is. same_path_eq (with_these_observations obs_eqs) e refl refl (schema.path_eqs n e is);
    obs_eqs = λ n e is. same_observation S.path_eqs obs_eqs e (each n e is);
  }

  pub with_attributes-is : (n : ℕ) (parts : List (Name × Name × Name)) (attributes : List Edge) → S.obs_eqs ≡ [] → length parts < 2 ^ 32
      → attributes_fault S n parts ≡ None → attributes ≡ map (made_attribute S.typeside S.entities) parts → IsSchema (with_these_attributes attributes)
  with_attributes-is n parts attributes none few h is =
      let named : edge_names attributes ≡ part_names parts = ap edge_names is ∙ names_of_attributes S.typeside S.entities parts in
      let before : AreDistinct (function_names S.typeside ++ edge_names S.keys) = distinct_front (function_names S.typeside ++ edge_names S.keys) (edge_names S.attributes) schema.distinct_symbols in
      let distinct : AreDistinct ((function_names S.typeside ++ edge_names S.keys) ++ part_names parts)
      = first_part_fault-distinct (λ part. part.0) (attribute_fault S.typeside S.entities) (λ earlier n part e. (new_name earlier n part.0 _ e).0) (function_names S.typeside ++ edge_names S.keys) n parts before h in
      record {
        typeside = schema.typeside;
        entity_numbers = schema.entity_numbers;
        key_numbers = schema.key_numbers;
        attribute_numbers = subst (λ (m : ℕ). m < 2 ^ 32) (sym (ap length is ∙ length-map parts (made_attribute S.typeside S.entities))) few;
        distinct_sorts = schema.distinct_sorts;
        distinct_symbols = subst (λ (l : List Name). AreDistinct ((function_names S.typeside ++ edge_names S.keys) ++ l)) (sym named) distinct;
        keys = schema.keys;
        attributes = subst (λ (l : List Edge). All (λ edge. (edge.from < length S.entities) × (edge.to < length S.typeside.types)) l) (sym is)
            (All-map (λ edge. (edge.from < length S.entities) × (edge.to < length S.typeside.types)) (made_attribute S.typeside S.entities) parts
            (first_part_fault-each (λ part. part.0) (attribute_fault S.typeside S.entities)
            (λ part. (number_or_zero (entity_named S.typeside S.entities part.1) < length S.entities) × (number_or_zero (type_named S.typeside S.entities part.2) < length S.typeside.types))
            (λ earlier n part e. let rules = attribute_rules S.typeside S.entities earlier n part e in (entity_known S.typeside S.entities part.1 rules.0, type_known S.typeside S.entities part.2 rules.1))
            (function_names S.typeside ++ edge_names S.keys) n parts h));
        path_eqs = λ m e at. same_path_eq (with_these_attributes attributes) e refl refl (schema.path_eqs m e at);
        obs_eqs = λ m e at. absurd (none_there S.obs_eqs none m e at);
      }

-- the schema of the first two lists, with its tables
module _ (T : Typeside) (entities es table : List Name) (ks : List (Name × Name × Name)) (n : ℕ) (is_typeside : IsTypeside T) (few : length entities + length ks < 2 ^ 32)
    (is_entities : es ≡ entities) (here : n ≡ length entities) (first : entities_fault T es ≡ None) (same : table ≡ es) where
  entities_right : entities_fault T entities ≡ None
  entities_right = ap (entities_fault T) (sym is_entities) ∙ first

  pub start_fault-after : or_else (entities_fault T entities) (keys_fault T entities (length entities) ks) ≡ keys_fault T table n ks
  start_fault-after =
      ap (λ o. or_else o (keys_fault T entities (length entities) ks)) entities_right
      ∙ ap (λ l. keys_fault T l (length entities) ks) (sym is_entities ∙ sym same) ∙ ap (λ m. keys_fault T table m ks) (sym here)

  pub start-refused : (r : TheoryRefusal) → (r ≡ Memory) ⊎ (keys_fault T table n ks ≡ Some r) → (r ≡ Memory) ⊎ (or_else (entities_fault T entities) (keys_fault T entities (length entities) ks) ≡ Some r)
  start-refused r (inl e) = inl e
  start-refused r (inr e) = inr (start_fault-after ∙ e)

  module _ (second : keys_fault T table n ks ≡ None) (key_table : List Name) (made keys : List Edge) (named : key_table ≡ part_names ks) (are_made : made ≡ map (made_key T table) ks) (are_keys : keys ≡ made)
      (attributes : List Edge) (path_eqs : List PathEq) (obs_eqs : List ObsEq) (no_attributes : attributes ≡ []) (no_path_eqs : path_eqs ≡ []) (no_obs_eqs : obs_eqs ≡ []) where
    abbrev whole : Schema
    whole = record { typeside = T; entities = entities; keys = keys; attributes = attributes; path_eqs = path_eqs; obs_eqs = obs_eqs }

    keys_are : keys ≡ map (made_key T entities) ks
    keys_are = are_keys ∙ are_made ∙ ap (λ l. map (made_key T l) ks) (same ∙ is_entities)

    pub started-made : whole ≡ started T entities ks
    started-made i = record { typeside = T; entities = entities; keys = keys_are i; attributes = no_attributes i; path_eqs = no_path_eqs i; obs_eqs = no_obs_eqs i }

    pub started-whole : (attribute_table : List Name) → attribute_table ≡ [] → IsSchema whole × (table ≡ entities) × (key_table ≡ edge_names keys) × (attribute_table ≡ edge_names attributes)
    started-whole attribute_table none =
        let keys_right : keys_fault T entities n ks ≡ None = ap (λ l. keys_fault T l n ks) (sym is_entities ∙ sym same) ∙ second in (
          subst IsSchema (sym started-made) (started-is T entities n ks is_typeside few entities_right keys_right),
          same ∙ is_entities,
          named ∙ sym (names_of_keys T entities ks) ∙ ap edge_names (sym keys_are),
          none ∙ ap edge_names (sym no_attributes),
        )

-- the schema with a further list
pub path_eqs-whole : (S T : Schema) → S ≡ T → IsSchema S → (attributes : List (Name × Name × Name)) (n : ℕ) (parts : List (List Name × List Name)) (made path_eqs : List PathEq)
    → path_eqs_fault T attributes n parts ≡ None → path_eqs ≡ made → made ≡ map (made_path_eq T) parts
    → IsSchema (record { typeside = S.typeside; entities = S.entities; keys = S.keys; attributes = S.attributes; path_eqs = path_eqs; obs_eqs = S.obs_eqs })
path_eqs-whole S T same schema attributes n parts made path_eqs h e f =
    with_path_eqs-is S schema path_eqs
    (made_path_eqs-are S schema (is_among (part_names attributes)) n parts path_eqs (ap (λ X. path_eqs_fault X attributes n parts) same ∙ h) (e ∙ f ∙ ap (λ X. map (made_path_eq X) parts) (sym same)))

pub attributes-whole : (S T : Schema) → S ≡ T → IsSchema S → (n : ℕ) (parts : List (Name × Name × Name)) (made attributes : List Edge) (table : List Name)
    → T.obs_eqs ≡ [] → length parts < 2 ^ 32 → attributes_fault T n parts ≡ None → attributes ≡ made → made ≡ map (made_attribute T.typeside T.entities) parts → table ≡ part_names parts
    → IsSchema (record { typeside = S.typeside; entities = S.entities; keys = S.keys; attributes = attributes; path_eqs = S.path_eqs; obs_eqs = S.obs_eqs }) × (table ≡ edge_names attributes)
attributes-whole S T same schema n parts made attributes table none few h e f named =
    let are : attributes ≡ map (made_attribute S.typeside S.entities) parts = e ∙ f ∙ ap (λ X. map (made_attribute X.typeside X.entities) parts) (sym same) in (
      with_attributes-is S schema n parts attributes (ap (λ X. X.obs_eqs) same ∙ none) few (ap (λ X. attributes_fault X n parts) same ∙ h) are,
      named ∙ sym (names_of_attributes S.typeside S.entities parts) ∙ ap edge_names (sym are),
    )

pub observations-whole : (S T : Schema) → S ≡ T → IsSchema S → (n : ℕ) (parts : List ObsPart) (made obs_eqs : List ObsEq)
    → observations_fault T n parts ≡ None → obs_eqs ≡ made → made ≡ map (made_observation T) parts
    → IsSchema (record { typeside = S.typeside; entities = S.entities; keys = S.keys; attributes = S.attributes; path_eqs = S.path_eqs; obs_eqs = obs_eqs })
observations-whole S T same schema n parts made obs_eqs h e f =
    with_observations-is S schema obs_eqs
    (made_observations-are S schema n parts obs_eqs (ap (λ X. observations_fault X n parts) same ∙ h) (e ∙ f ∙ ap (λ X. map (made_observation X) parts) (sym same)))

-- the fault of the whole from that of the lists after the foreign keys
module _ (T : Typeside) (parts : SchemaParts) (S : Schema) (ks ats : List (Name × Name × Name)) (ps : List (List Name × List Name)) (os : List ObsPart) (n k : ℕ)
    (is_keys : ks ≡ parts.keys) (is_path_eqs : ps ≡ parts.path_eqs) (is_attributes : ats ≡ parts.attributes) (is_observations : os ≡ parts.obs_eqs)
    (here : n ≡ length parts.entities) (there : k ≡ length parts.keys)
    (right : or_else (entities_fault T parts.entities) (keys_fault T parts.entities (length parts.entities) ks) ≡ None) (start : S ≡ started T parts.entities ks) where
  first_right : entities_fault T parts.entities ≡ None
  first_right = (or_else_none (entities_fault T parts.entities) _ right).0

  second_right : keys_fault T parts.entities (length parts.entities) parts.keys ≡ None
  second_right = ap (keys_fault T parts.entities (length parts.entities)) (sym is_keys) ∙ (or_else_none (entities_fault T parts.entities) _ right).1

  same_start : S ≡ started T parts.entities parts.keys
  same_start = start ∙ ap (started T parts.entities) is_keys

  pub schema_fault-rest : schema_fault T parts ≡ rest_fault S ps ats os (n + k)
  schema_fault-rest =
      ap (λ o. or_else o (or_else (keys_fault T parts.entities (length parts.entities) parts.keys) (rest_fault (started T parts.entities parts.keys) parts.path_eqs parts.attributes parts.obs_eqs (length parts.entities + length parts.keys)))) first_right
      ∙ ap (λ o. or_else o (rest_fault (started T parts.entities parts.keys) parts.path_eqs parts.attributes parts.obs_eqs (length parts.entities + length parts.keys))) second_right
      ∙ (λ i. rest_fault (sym same_start i) (sym is_path_eqs i) (sym is_attributes i) (sym is_observations i) (sym here i + sym there i))

  pub schema_made-rest : completed S ps ats os ≡ schema_made T parts
  schema_made-rest = λ i. completed (same_start i) (is_path_eqs i) (is_attributes i) (is_observations i)

  pub schema_fault-refused : (r : TheoryRefusal) → (r ≡ Memory) ⊎ (rest_fault S ps ats os (n + k) ≡ Some r) → (r ≡ Memory) ⊎ (schema_fault T parts ≡ Some r)
  schema_fault-refused r (inl e) = inl e
  schema_fault-refused r (inr e) = inr (schema_fault-rest ∙ e)

-- The schemas of joined symbols.
use Rattle.std.proofs.Common.{ℕ, Bool, true, false, List, [], ◌∷◌, ◌++◌, Option, Some, None, ◌≡◌, ◌+◌, ◌<◌, length, cond, refl, sym, ap, subst, ◌∙◌}
use Rattle.std.specs.Prelude.{is_some, slice_get, option_and_then}
use Rattle.std.specs.List.{flat_map}
use Rattle.cq_base.specs.declared.name.Name.{Name}
use Rattle.cq_theory.specs.declared.refusal.TheoryRefusal.TheVariants.{Duplicate, Unknown, WrongSort}
use Rattle.cq_theory.specs.declared.parts.ObsPart.{ObsPart}
use Rattle.cq_theory.specs.declared.parts.SchemaParts.{SchemaParts}
use Rattle.cq_theory.specs.declared.schema.Edge.{Edge}
use Rattle.cq_theory.specs.declared.schema.PathEq.{PathEq}
use Rattle.cq_theory.specs.declared.schema.ObsEq.{ObsEq}
use Rattle.cq_theory.specs.declared.term.TypeTerm.{TypeTerm}
use Rattle.cq_theory.specs.declared.term.TypeTerm.TheOpen as layer
use Rattle.cq_theory.specs.declared.term.TypeTerm.TheFolds.{fold-TypeTerm}
use Rattle.cq_theory.specs.SchemaData.{SchemaData as Schema}
use Rattle.cq_theory.specs.TypesideData.{TypesideData as Typeside}
use Rattle.cq_theory.specs.Typeside.{function_names, constant_type}
use Rattle.cq_theory.specs.Schema.{IsSchema, edge_names, one_of}
use Rattle.cq_theory.specs.Sorts.{Generators, followed, target_of, entity_at, applied_type, type_of, type_step}
use Rattle.cq_theory.specs.Resolve.{or_else}
use Rattle.cq_theory.specs.Declaring.{first_part_fault}
use Rattle.cq_theory.specs.SchemaParts.{attribute_fault, attribute_ends_fault, entities_fault, keys_fault, path_eqs_fault, attributes_fault, schema_fault, schema_made}
use Rattle.cq_theory.proofs.DeclaredParts.{or_else_none, new_name}
use Rattle.cq_theory.specs.declared.parts.ColimitParts.{ColimitParts}
use Rattle.cq_colimit.specs.PlacedData.{PlacedData as Placed}
use Rattle.cq_colimit.specs.Appended.{ArePathEqs, AreObsEqs, with_first}
use Rattle.cq_colimit.specs.Joined.{entities_of, keys_of, attributes_of, keyed, framed, inclusion, path_eq_images, obs_eq_images, with_images}
use Rattle.cq_colimit.specs.Frame.{IsFrame, HasSymbols, HasImages, bare}

-- attributes without faults have none by other numbers
ends_by : (a b : Bool) (n m : ℕ) → cond a (Some (Unknown n)) (cond b (Some (WrongSort n)) None) ≡ None → cond a (Some (Unknown m)) (cond b (Some (WrongSort m)) None) ≡ None
ends_by true b n m h = cc
ends_by false true n m h = cc
ends_by false false n m h = refl

pub attributes_by : (T : Typeside) (entities earlier : List Name) (n m : ℕ) (parts : List (Name × Name × Name))
    → first_part_fault (λ part. part.0) (attribute_fault T entities) earlier n parts ≡ None → first_part_fault (λ part. part.0) (attribute_fault T entities) earlier m parts ≡ None
attributes_by T entities earlier n m [] h = h
attributes_by T entities earlier n m (part ∷ parts) h =
    let both = or_else_none (attribute_fault T entities earlier n part) (first_part_fault (λ part. part.0) (attribute_fault T entities) (earlier ++ part.0 ∷ []) (n + 1) parts) h in
    let new = new_name earlier n part.0 (attribute_ends_fault T entities n part.1 part.2) both.0 in
    let first : attribute_fault T entities earlier m part ≡ None =
    ap (λ o. cond (is_some o) (Some (Duplicate m)) (attribute_ends_fault T entities m part.1 part.2)) new.0 ∙ ends_by _ _ n m new.1 in
    ap (λ o. or_else o (first_part_fault (λ part. part.0) (attribute_fault T entities) (earlier ++ part.0 ∷ []) (m + 1) parts)) first
    ∙ attributes_by T entities (earlier ++ part.0 ∷ []) (n + 1) (m + 1) parts both.1

-- equations of a schema are those of another one with its symbols
module _ (S T : Schema) (typeside : S.typeside ≡ T.typeside) (entities : S.entities ≡ T.entities) (keys : S.keys ≡ T.keys) (attributes : S.attributes ≡ T.attributes) where
  same_step : (G : Generators) (x : layer.TypeTerm-F (Option ℕ)) → type_step S G x ≡ type_step T G x
  same_step G (layer.Gen n) = refl
  same_step G (layer.Const c) = ap (λ (y : Typeside). constant_type y c) typeside
  same_step G (layer.Att a t) = λ i. option_and_then (followed (slice_get (attributes i) a)) (option_and_then (target_of (keys i) t.path) (entity_at (slice_get G t.generator)))
  same_step G (layer.Fun f types) = ap (λ (y : Typeside). applied_type (slice_get y.functions f) types) typeside

  same_type : (G : Generators) (t : TypeTerm) → type_of S G t ≡ type_of T G t
  same_type G t = λ i. fold-TypeTerm (Option ℕ) (λ x. same_step G x i) t

  pub same_path_eqs : (path_eqs : List PathEq) → ArePathEqs S path_eqs → ArePathEqs T path_eqs
  same_path_eqs path_eqs are n e at = let is = are n e at in record {
    target = is.target;
    left = ap (λ (l : List Edge). target_of l e.left e.entity) (sym keys) ∙ is.left;
    right = ap (λ (l : List Edge). target_of l e.right e.entity) (sym keys) ∙ is.right;
    entity = subst (λ (l : List Name). e.entity < length l) entities is.entity;
    left_fits = is.left_fits;
    right_fits = is.right_fits;
  }

  pub same_obs_eqs : (obs_eqs : List ObsEq) → AreObsEqs S obs_eqs → AreObsEqs T obs_eqs
  same_obs_eqs obs_eqs are n e at = let is = are n e at in record {
    type = is.type;
    left = sym (same_type (one_of e.entity) e.left) ∙ is.left;
    right = sym (same_type (one_of e.entity) e.right) ∙ is.right;
    entity = subst (λ (l : List Name). e.entity < length l) entities is.entity;
    left_fits = is.left_fits;
    right_fits = is.right_fits;
  }

module _ (links : List (ℕ × ℕ)) (T : Typeside) (parts : List Placed) where
  abbrev pub E : List Name
  E = entities_of links parts

  abbrev pub K : List (Name × Name × Name)
  K = keys_of links E parts

  abbrev pub A : List (Name × Name × Name)
  A = attributes_of links E parts

  -- what is written without equations
  abbrev pub plain : List (List Name × List Name) → List ObsPart → SchemaParts
  plain path_eqs obs_eqs = record { entities = E; keys = K; path_eqs = path_eqs; attributes = A; obs_eqs = obs_eqs }

  module _ (written : SchemaParts) (names : List Name) (path_eqs : List (List Name × List Name)) (obs_eqs : List ObsPart) (are : names ≡ E) (is_entities : written.entities ≡ names)
      (is_keys : written.keys ≡ keys_of links names parts) (is_path_eqs : written.path_eqs ≡ path_eqs) (is_attributes : written.attributes ≡ attributes_of links names parts) (is_obs_eqs : written.obs_eqs ≡ obs_eqs) where
    whole : written ≡ plain path_eqs obs_eqs
    whole = λ i. record {
      entities = (is_entities ∙ are) i;
      keys = (is_keys ∙ ap (λ l. keys_of links l parts) are) i;
      path_eqs = is_path_eqs i;
      attributes = (is_attributes ∙ ap (λ l. attributes_of links l parts) are) i;
      obs_eqs = is_obs_eqs i;
    }

    pub written_fault : schema_fault T written ≡ schema_fault T (plain path_eqs obs_eqs)
    written_fault = ap (schema_fault T) whole

    pub written_made : schema_made T written ≡ schema_made T (plain path_eqs obs_eqs)
    written_made = ap (schema_made T) whole

  pub bare_symbols : schema_fault T (plain [] []) ≡ None → HasSymbols links T parts
  unfolding keyed
  bare_symbols h =
      let first = or_else_none (entities_fault T E) _ h in
      let second = or_else_none (keys_fault T E (length E) K) _ first.1 in
      let third = or_else_none (path_eqs_fault (keyed links T parts) A (length E + length K) []) _ second.1 in
      let fourth = or_else_none (attributes_fault (keyed links T parts) (length E + length K + 0) A) _ third.1 in
      record {
        entities = first.0;
        keys = second.0;
        attributes = λ n. attributes_by T E (function_names T ++ edge_names (keyed links T parts).keys) (length E + length K + 0) n A fourth.0;
      }

  pub bare_made : schema_made T (plain [] []) ≡ bare links T parts
  unfolding bare keyed
  bare_made = refl

  pub bare_is : (J : Schema) → J ≡ bare links T parts → IsSchema J → IsFrame links parts J
  unfolding bare keyed
  bare_is J is = subst (λ (X : Schema). IsSchema X → IsFrame links parts X) (sym is)
      (λ schema. record { schema = schema; entities = refl; keys = refl; attributes = refl })

  pub bare_over : (bare links T parts).typeside ≡ T
  unfolding bare keyed
  bare_over = refl

  module _ (joins : ColimitParts) where
    pub framed_made : schema_made T (plain joins.path_eqs joins.obs_eqs) ≡ framed links T parts joins
    unfolding framed keyed
    framed_made = refl

    pub framed_over : (framed links T parts joins).typeside ≡ T
    unfolding framed keyed
    framed_over = refl

    pub framed_path_eqs : (path_eqs : List PathEq) → ArePathEqs (bare links T parts) path_eqs → ArePathEqs (framed links T parts joins) path_eqs
    unfolding bare framed keyed
    framed_path_eqs = same_path_eqs (bare links T parts) (framed links T parts joins) refl refl refl refl

    pub framed_obs_eqs : (obs_eqs : List ObsEq) → AreObsEqs (bare links T parts) obs_eqs → AreObsEqs (framed links T parts joins) obs_eqs
    unfolding bare framed keyed
    framed_obs_eqs = same_obs_eqs (bare links T parts) (framed links T parts joins) refl refl refl refl

    pub joined_is : (J : Schema) → J ≡ with_images links (framed links T parts joins) parts → IsSchema J → IsFrame links parts J
    unfolding framed keyed
    joined_is J is = subst (λ (X : Schema). IsSchema X → IsFrame links parts X) (sym is)
        (λ schema. record { schema = schema; entities = refl; keys = refl; attributes = refl })

-- the images of the parts' equations put first
module _ (links : List (ℕ × ℕ)) (parts : List Placed) (F B : Schema) where
  pub with_first-images : (path_eqs : List PathEq) (obs_eqs : List ObsEq) → path_eqs ≡ flat_map (λ part. path_eq_images (inclusion links B part)) parts
      → obs_eqs ≡ flat_map (λ part. obs_eq_images (inclusion links B part)) parts → with_first F path_eqs obs_eqs ≡ with_images links F parts
  with_first-images path_eqs obs_eqs p o = λ i. record {
    typeside = F.typeside;
    entities = F.entities;
    keys = F.keys;
    attributes = F.attributes;
    path_eqs = p i ++ F.path_eqs;
    obs_eqs = o i ++ F.obs_eqs;
  }

  pub has_images : (J : Schema) → J ≡ with_images links F parts → HasImages links parts J
  has_images J is = subst (HasImages links parts) (sym is) (record { own_path_eqs = F.path_eqs; own_obs_eqs = F.obs_eqs; path_eqs = refl; obs_eqs = refl })

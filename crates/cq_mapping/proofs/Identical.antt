-- The identity is a mapping, and it preserves equality.
use Rattle.std.proofs.Common.{ℕ, zero, suc, Bool, true, List, [], ◌∷◌, ◌++◌, Option, Some, None, ◌≡◌, ◌<◌, ◌≤◌, ◌+◌, ◌⊎◌, if◌then◌else◌, map, length, refl, sym, ap, subst, ◌∙◌, inl, inr, arith}
use Rattle.std.specs.Prelude.{slice_get, option_and_then, All}
use Rattle.std.proofs.lemmas.Bool.{eq-eqb}
use Rattle.std.proofs.lemmas.List.{append-nil}
use Rattle.std.proofs.lemmas.List.FromFn.{length-range_with_len, get_or-range_with_len, length-map-range_with_len, get_or-map-range_with_len}
use Rattle.std.proofs.lemmas.Option.{option_and_then_some, slice_get_within}
use Rattle.cq_theory.specs.declared.schema.Edge.{Edge}
use Rattle.cq_theory.specs.declared.schema.PathEq.{PathEq}
use Rattle.cq_theory.specs.declared.schema.ObsEq.{ObsEq}
use Rattle.cq_theory.specs.SchemaData.{SchemaData as Schema}
use Rattle.cq_theory.specs.declared.constant.Con.TheVariants.{Named}
use Rattle.cq_theory.specs.declared.term.EntTerm.{EntTerm}
use Rattle.cq_theory.specs.declared.term.TypeTerm.{TypeTerm}
use Rattle.cq_theory.specs.declared.term.TypeTerm.TheVariants.{Const, Att, Fun}
use Rattle.cq_theory.specs.declared.term.Term.TheVariants.{Ent, Typ}
use Rattle.cq_theory.specs.EntTerm.{extended}
use Rattle.cq_theory.specs.TypeTerm.{symbols_of, symbols_step, substituted, substituted_step}
use Rattle.cq_theory.specs.Sorts.{Generators, followed, target_of, type_at, entity_at, entity_of, is_type, have_types, type_of, type_step}
use Rattle.cq_theory.specs.Schema.{IsSchema, one_of}
use Rattle.cq_theory.specs.Canonical.{below}
use Rattle.cq_theory.specs.Derivation.{path_equation, observation, Derives}
use Rattle.cq_theory.proofs.TypeTerms.{fold-Gen, fold-Const, fold-Att, fold-Fun, Each, on_terms}
use Rattle.cq_theory.proofs.Sound.{followed_some, is_type_some, applied_type_some, both}
use Rattle.cq_theory.proofs.MadePaths.{key_within}
use Rattle.cq_theory.proofs.MadeObservations.{attribute_begins}
use Rattle.cq_theory.proofs.Faults.{made_of}
use Rattle.cq_mapping.specs.MappingData.{MappingData as Mapping}
use Rattle.cq_mapping.specs.Images.{entity_image, key_image, attribute_image, path_image, ent_image, type_image, type_image_step}
use Rattle.cq_mapping.specs.Mapping.{IsMapping, IsKeyImage, IsAttributeImage, identity_of, attribute_itself}
use Rattle.cq_mapping.specs.Duties.{one_generator, path_duty, observation_duty, IsDerivable, Preserves}

in_parts : {X : Type 0} (xs ys : List X) (n : ℕ) (x : X) → slice_get (xs ++ ys) n ≡ Some x → ((m : ℕ) × (slice_get xs m ≡ Some x)) ⊎ ((m : ℕ) × (slice_get ys m ≡ Some x))
in_parts [] ys n x h = inr (n, h)
in_parts (y ∷ xs) ys zero x h = inl (0, h)
in_parts (y ∷ xs) ys (suc n) x h = elim (in_parts xs ys n x h) [ inl m ↦ inl (suc m.0, m.1) | inr m ↦ inr m ]

no_type_variable : (e n type : ℕ) → type_at (slice_get (one_of e) n) ≡ Some type → ⊥
no_type_variable e zero type h = cc
no_type_variable e (suc n) type h = cc

one_variable : (e n start : ℕ) → entity_at (slice_get (one_of e) n) ≡ Some start → 0 ≡ n
one_variable e zero start h = refl
one_variable e (suc n) start h = cc

abbrev variable : EntTerm
variable = record { generator = 0; path = [] }

module _ (S : Schema) (schema : IsSchema S) where
  abbrev I : Mapping
  I = identity_of S

  entity_same : (e : ℕ) → e < length S.entities → entity_image I e ≡ e
  entity_same e h = let here : 0 + e ≡ e = omega arith in get_or-range_with_len 0 (length S.entities) e 0 h ∙ here

  key_same : (k : ℕ) → k < length S.keys → key_image I k ≡ k ∷ []
  key_same k h = get_or-map-range_with_len (λ (j : ℕ). j ∷ []) 0 (length S.keys) k k [] h (omega arith)

  attribute_same : (a : ℕ) → a < length S.attributes → attribute_image I a ≡ Att a variable
  attribute_same a h = get_or-map-range_with_len attribute_itself 0 (length S.attributes) a a (Const (Named 0)) h (omega arith)

  key_leads : (k : ℕ) (edge : Edge) → slice_get S.keys k ≡ Some edge → IsKeyImage I edge (key_image I k)
  key_leads k edge at =
      let ends = key_within S schema k edge at in
      let key : key_image I k ≡ k ∷ [] = key_same k (slice_get_within S.keys k edge at) in
      let from : entity_image I edge.from ≡ edge.from = entity_same edge.from ends.0 in
      let to : entity_image I edge.to ≡ edge.to = entity_same edge.to ends.1 in
      record {
        leads =
            (λ i. target_of S.keys (key i) (from i)) ∙ ap (λ o. option_and_then (target_of S.keys []) (followed o edge.from)) at
            ∙ ap (λ (b : Bool). option_and_then (target_of S.keys []) (if b then Some edge.to else None)) (eq-eqb edge.from edge.from refl) ∙ ap (λ n. Some n) (sym to);
        fits = subst (λ (l : List ℕ). length l < 1024) (sym key) (omega arith);
      }

  attribute_typed : (a : ℕ) (edge : Edge) → slice_get S.attributes a ≡ Some edge → IsAttributeImage I edge (attribute_image I a)
  attribute_typed a edge at =
      let same : attribute_image I a ≡ Att a variable = attribute_same a (slice_get_within S.attributes a edge at) in
      let from : entity_image I edge.from ≡ edge.from = entity_same edge.from (attribute_begins S schema a edge at) in
      let count : symbols_of (Att a variable) ≡ 2 = fold-Att ℕ symbols_step a variable in
      record {
        typed =
            (λ i. type_of S (one_of (from i)) (same i)) ∙ fold-Att (Option ℕ) (type_step S (one_of edge.from)) a variable
            ∙ ap (λ o. followed o edge.from) at ∙ ap (λ (b : Bool). if b then Some edge.to else None) (eq-eqb edge.from edge.from refl);
        fits = subst (λ (t : TypeTerm). symbols_of t ≤ 1024) (sym same) (omega (arith, count));
      }

  entities_within : All (λ e. e < length S.entities) (below (length S.entities))
  entities_within k d h =
      let within : k < length S.entities = omega (arith, h, length-range_with_len 0 (length S.entities)) in
      subst (λ e. e < length S.entities) (sym (get_or-range_with_len 0 (length S.entities) k d within)) (omega arith)

  pub identity_is : IsMapping I
  identity_is = record {
    source = schema;
    target = schema;
    typeside = refl;
    entities = length-range_with_len 0 (length S.entities);
    keys = length-map-range_with_len (λ (j : ℕ). j ∷ []) 0 (length S.keys);
    attributes = length-map-range_with_len attribute_itself 0 (length S.attributes);
    entity_images = entities_within;
    key_images = key_leads;
    attribute_images = attribute_typed;
  }

  path_same : (path : List ℕ) (e target : ℕ) → target_of S.keys path e ≡ Some target → path_image I path ≡ path
  path_same [] e target h = refl
  path_same (k ∷ path) e target h = option_and_then_some (target_of S.keys path) (followed (slice_get S.keys k) e) target h (λ middle first rest.
      let edge = followed_some (slice_get S.keys k) e middle first in
      let key : key_image I k ≡ k ∷ [] = key_same k (slice_get_within S.keys k edge.0 edge.1) in
      let after : path_image I path ≡ path = path_same path middle target rest in
      λ i. key i ++ after i)

  module _ (G : Generators) where
    ent_same : (t : EntTerm) (e : ℕ) → entity_of S G t ≡ Some e → ent_image I t ≡ t
    ent_same t e h = option_and_then_some (target_of S.keys t.path) (entity_at (slice_get G t.generator)) e h (λ start first rest.
        ap (λ path. extended (record { generator = t.generator; path = [] }) path) (path_same t.path start e rest))

    abbrev IsSame : TypeTerm → Type 0
    IsSame t = (type : ℕ) → type_of S G t ≡ Some type → type_image I t ≡ t

    args_same : (ts : List TypeTerm) (types : List ℕ) → have_types (map (type_of S G) ts) types ≡ true → Each IsSame ts → map (type_image I) ts ≡ ts
    args_same [] types h each = refl
    args_same (t ∷ ts) [] h each = cc
    args_same (t ∷ ts) (type ∷ types) h each =
        let parts = both (is_type (type_of S G t) type) (have_types (map (type_of S G) ts) types) h in
        let first : type_image I t ≡ t = each.0 type (is_type_some (type_of S G t) type parts.0) in
        let rest : map (type_image I) ts ≡ ts = args_same ts types parts.1 each.1 in
        λ i. first i ∷ rest i

    type_same : (t : TypeTerm) → IsSame t
    type_same = on_terms IsSame
        (λ n type h. fold-Gen TypeTerm (type_image_step I) n)
        (λ c type h. fold-Const TypeTerm (type_image_step I) c)
        (λ a t type h. option_and_then_some (followed (slice_get S.attributes a)) (entity_of S G t) type (sym (fold-Att (Option ℕ) (type_step S G) a t) ∙ h) (λ e led last.
        let edge = followed_some (slice_get S.attributes a) e type last in
        fold-Att TypeTerm (type_image_step I) a t ∙ ap (substituted (ent_image I t)) (attribute_same a (slice_get_within S.attributes a edge.0 edge.1))
        ∙ fold-Att TypeTerm (substituted_step (ent_image I t)) a variable
        ∙ ap (λ path. Att a (record { generator = t.generator; path = path })) (append-nil (path_image I t.path)) ∙ ap (Att a) (ent_same t e led)))
        (λ f ts each type h.
        let parts = applied_type_some (slice_get S.typeside.functions f) (map (type_of S G) ts) type (sym (fold-Fun (Option ℕ) (type_step S G) f ts) ∙ h) in
        fold-Fun TypeTerm (type_image_step I) f ts ∙ ap (Fun f) (args_same ts parts.0.args parts.2 each))

  module _ (entity : ℕ) where
    -- the variable in its own place
    abbrev IsKept : TypeTerm → Type 0
    IsKept t = (type : ℕ) → type_of S (one_of entity) t ≡ Some type → substituted variable t ≡ t

    args_kept : (ts : List TypeTerm) (types : List ℕ) → have_types (map (type_of S (one_of entity)) ts) types ≡ true → Each IsKept ts → map (substituted variable) ts ≡ ts
    args_kept [] types h each = refl
    args_kept (t ∷ ts) [] h each = cc
    args_kept (t ∷ ts) (type ∷ types) h each =
        let parts = both (is_type (type_of S (one_of entity) t) type) (have_types (map (type_of S (one_of entity)) ts) types) h in
        let first : substituted variable t ≡ t = each.0 type (is_type_some (type_of S (one_of entity) t) type parts.0) in
        let rest : map (substituted variable) ts ≡ ts = args_kept ts types parts.1 each.1 in
        λ i. first i ∷ rest i

    variable_kept : (t : TypeTerm) → IsKept t
    variable_kept = on_terms IsKept
        (λ n type h. absurd (no_type_variable entity n type (sym (fold-Gen (Option ℕ) (type_step S (one_of entity)) n) ∙ h)))
        (λ c type h. fold-Const TypeTerm (substituted_step variable) c)
        (λ a t type h. option_and_then_some (followed (slice_get S.attributes a)) (entity_of S (one_of entity) t) type (sym (fold-Att (Option ℕ) (type_step S (one_of entity)) a t) ∙ h) (λ e led last.
        option_and_then_some (target_of S.keys t.path) (entity_at (slice_get (one_of entity) t.generator)) e led (λ start first rest.
        fold-Att TypeTerm (substituted_step variable) a t ∙ ap (λ n. Att a (record { generator = n; path = t.path })) (one_variable entity t.generator start first))))
        (λ f ts each type h.
        let parts = applied_type_some (slice_get S.typeside.functions f) (map (type_of S (one_of entity)) ts) type (sym (fold-Fun (Option ℕ) (type_step S (one_of entity)) f ts) ∙ h) in
        fold-Fun TypeTerm (substituted_step variable) f ts ∙ ap (Fun f) (args_kept ts parts.0.args parts.2 each))

  path_kept : (n : ℕ) (e : PathEq) → slice_get S.path_eqs n ≡ Some e → IsDerivable I (path_duty I e)
  path_kept n e at =
      let sides = schema.path_eqs n e at in
      let entity : entity_image I e.entity ≡ e.entity = entity_same e.entity sides.entity in
      let left : path_image I e.left ≡ e.left = path_same e.left e.entity sides.target sides.left in
      let right : path_image I e.right ≡ e.right = path_same e.right e.entity sides.target sides.right in
      let derived : Derives S (one_generator e.entity) (Ent (record { generator = 0; path = e.left })) (Ent (record { generator = 0; path = e.right })) =
      (path_equation n variable, (e, at, refl, tt, refl, refl, tt, tt)) in
      let Derived : ℕ × List ℕ × List ℕ → Type 0 = λ x. Derives S (one_generator x.0) (Ent (record { generator = 0; path = x.1 })) (Ent (record { generator = 0; path = x.2 })) in
      let same : (e.entity, e.left, e.right) ≡ (entity_image I e.entity, path_image I e.left, path_image I e.right) = λ i. (sym entity i, sym left i, sym right i) in
      subst Derived same derived

  observation_kept : (n : ℕ) (e : ObsEq) → slice_get S.obs_eqs n ≡ Some e → IsDerivable I (observation_duty I e)
  observation_kept n e at =
      let sides = schema.obs_eqs n e at in
      let entity : entity_image I e.entity ≡ e.entity = entity_same e.entity sides.entity in
      let left : type_image I e.left ≡ e.left = type_same (one_of e.entity) e.left sides.type sides.left in
      let right : type_image I e.right ≡ e.right = type_same (one_of e.entity) e.right sides.type sides.right in
      let Derived : ℕ × TypeTerm × TypeTerm → Type 0 = λ x. Derives S (one_generator x.0) (Typ x.1) (Typ x.2) in
      let derived : Derives S (one_generator e.entity) (Typ (substituted variable e.left)) (Typ (substituted variable e.right)) =
      (observation n variable, (e, at, refl, tt, refl, refl, tt, tt)) in
      let kept_left : substituted variable e.left ≡ e.left = variable_kept e.entity e.left sides.type sides.left in
      let kept_right : substituted variable e.right ≡ e.right = variable_kept e.entity e.right sides.type sides.right in
      let all_left : substituted variable e.left ≡ type_image I e.left = kept_left ∙ sym left in
      let all_right : substituted variable e.right ≡ type_image I e.right = kept_right ∙ sym right in
      let same : (e.entity, substituted variable e.left, substituted variable e.right) ≡ (entity_image I e.entity, type_image I e.left, type_image I e.right) = λ i. (sym entity i, all_left i, all_right i) in
      subst Derived same derived

  pub identity_preserves : Preserves I
  identity_preserves n duty at = elim (in_parts (map (path_duty I) S.path_eqs) (map (observation_duty I) S.obs_eqs) n duty at) [
    | inl first ↦
        let found = made_of (path_duty I) S.path_eqs first.0 duty first.1 in
        subst (IsDerivable I) (sym found.2) (path_kept first.0 found.0 found.1)
    | inr second ↦
        let found = made_of (observation_duty I) S.obs_eqs second.0 duty second.1 in
        subst (IsDerivable I) (sym found.2) (observation_kept second.0 found.0 found.1)
  ]

-- the identity, by lists that are its own
pub identity_whole : (S source : Schema) (entities : List ℕ) (keys : List (List ℕ)) (attributes : List TypeTerm) → IsSchema S → source ≡ S
    → entities ≡ below (length S.entities) → keys ≡ map (λ k. k ∷ []) (below (length S.keys)) → attributes ≡ map attribute_itself (below (length S.attributes))
    → IsMapping (record { source = source; target = S; entities = entities; keys = keys; attributes = attributes })
identity_whole S source entities keys attributes schema a b c d =
    let whole : identity_of S ≡ record { source = source; target = S; entities = entities; keys = keys; attributes = attributes } =
    λ i. record { source = sym a i; target = S; entities = sym b i; keys = sym c i; attributes = sym d i } in
    subst IsMapping whole (identity_is S schema)

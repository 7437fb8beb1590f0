-- One part more, in lists made of all parts.
use Rattle.std.proofs.Common.{ℕ, List, [], ◌∷◌, ◌++◌, ◌≡◌, Some, inl, inr, ◌<◌, ◌+◌, length, map, take, get_or, refl, sym, ap, subst, ◌∙◌}
use Rattle.std.specs.Prelude.{slice_get}
use Rattle.std.specs.List.{flat_map, range_with_len}
use Rattle.std.proofs.lemmas.List.{take_more, append-nil, map_more}
use Rattle.std.proofs.lemmas.List.Concat.{flat_map-append}
use Rattle.cq_theory.specs.declared.schema.PathEq.{PathEq}
use Rattle.cq_theory.specs.declared.schema.ObsEq.{ObsEq}
use Rattle.cq_theory.specs.declared.term.TypeTerm.{TypeTerm}
use Rattle.cq_theory.specs.SchemaData.{SchemaData as Schema}
use Rattle.cq_theory.specs.Schema.{IsSchema, IsPathEq, IsObsEq}
use Rattle.cq_mapping.specs.Mapping.{IsMapping, attribute_itself}
use Rattle.cq_colimit.specs.PlacedData.{PlacedData as Placed}
use Rattle.cq_colimit.specs.Classes.{class_of}
use Rattle.cq_colimit.specs.Appended.{ArePathEqs, AreObsEqs, with_first}
use Rattle.cq_colimit.specs.Joined.{inclusion}
use Rattle.cq_colimit.proofs.Preserving.{in_parts}
use Rattle.cq_colimit.proofs.Framing.{same_path_eqs, same_obs_eqs}

pub flat_step : {X Y : Type 0} (f : X → List Y) (xs : List X) (i : ℕ) (x : X) (before after : List Y) → i < length xs → x ≡ get_or xs i x
    → before ≡ flat_map f (take i xs) → after ≡ before ++ f x → after ≡ flat_map f (take (i + 1) xs)
flat_step f xs i x before after within is so_far now =
    now ∙ (λ j. so_far j ++ f (is j))
    ∙ sym (ap (flat_map f) (take_more xs i x within) ∙ flat_map-append f (take i xs) (get_or xs i x ∷ []) ∙ ap (λ l. flat_map f (take i xs) ++ l) (append-nil (f (get_or xs i x))))

pub map_step : {X Y : Type 0} (f : X → Y) (xs : List X) (i : ℕ) (x : X) (y : Y) (before : List Y) → i < length xs → x ≡ get_or xs i x
    → before ≡ map f (take i xs) → y ≡ f x → before ++ y ∷ [] ≡ map f (take (i + 1) xs)
map_step f xs i x y before within is so_far now = (λ j. so_far j ++ (now ∙ ap f is) j ∷ []) ∙ sym (map_more f xs i x within)

pub path_eqs-append : (S : Schema) (xs ys zs : List PathEq) → zs ≡ xs ++ ys → ArePathEqs S xs → ArePathEqs S ys → ArePathEqs S zs
path_eqs-append S xs ys zs is first second n e at = elim (in_parts xs ys n e (ap (λ (l : List PathEq). slice_get l n) (sym is) ∙ at)) as (λ _. IsPathEq S e) [
  | inl m ↦ first m.0 e m.1
  | inr m ↦ second m.0 e m.1
]

pub obs_eqs-append : (S : Schema) (xs ys zs : List ObsEq) → zs ≡ xs ++ ys → AreObsEqs S xs → AreObsEqs S ys → AreObsEqs S zs
obs_eqs-append S xs ys zs is first second n e at = elim (in_parts xs ys n e (ap (λ (l : List ObsEq). slice_get l n) (sym is) ∙ at)) as (λ _. IsObsEq S e) [
  | inl m ↦ first m.0 e m.1
  | inr m ↦ second m.0 e m.1
]

-- an inclusion by lists that are its own
pub included : (links : List (ℕ × ℕ)) (J source : Schema) (part : Placed) (entities : List ℕ) (keys : List (List ℕ)) (attributes : List TypeTerm) → source ≡ part.schema
    → entities ≡ map (class_of links) (range_with_len part.start.entity (length part.schema.entities)) → keys ≡ map (λ k. k ∷ []) (range_with_len part.start.key (length part.schema.keys))
    → attributes ≡ map attribute_itself (range_with_len part.start.attribute (length part.schema.attributes)) → IsMapping (inclusion links J part)
    → IsMapping (record { source = source; target = J; entities = entities; keys = keys; attributes = attributes })
included links J source part entities keys attributes s e k a is =
    let whole : inclusion links J part ≡ record { source = source; target = J; entities = entities; keys = keys; attributes = attributes } =
    λ i. record { source = sym s i; target = J; entities = sym e i; keys = sym k i; attributes = sym a i } in
    subst IsMapping whole is

-- a schema with equations before its own is well sorted
with_first-is : (S : Schema) → IsSchema S → (path_eqs : List PathEq) (obs_eqs : List ObsEq) → ArePathEqs S path_eqs → AreObsEqs S obs_eqs → IsSchema (with_first S path_eqs obs_eqs)
with_first-is S schema path_eqs obs_eqs paths observations = record {
  typeside = schema.typeside;
  entity_numbers = schema.entity_numbers;
  key_numbers = schema.key_numbers;
  attribute_numbers = schema.attribute_numbers;
  distinct_sorts = schema.distinct_sorts;
  distinct_symbols = schema.distinct_symbols;
  keys = schema.keys;
  attributes = schema.attributes;
  path_eqs = same_path_eqs S (with_first S path_eqs obs_eqs) refl refl refl refl (path_eqs ++ S.path_eqs) (path_eqs-append S path_eqs S.path_eqs (path_eqs ++ S.path_eqs) refl paths schema.path_eqs);
  obs_eqs = same_obs_eqs S (with_first S path_eqs obs_eqs) refl refl refl refl (obs_eqs ++ S.obs_eqs) (obs_eqs-append S obs_eqs S.obs_eqs (obs_eqs ++ S.obs_eqs) refl observations schema.obs_eqs);
}

-- a schema without its equations is well sorted
pub bare_whole : (S : Schema) → IsSchema S → (path_eqs : List PathEq) (obs_eqs : List ObsEq) → path_eqs ≡ [] → obs_eqs ≡ []
    → IsSchema (record { typeside = S.typeside; entities = S.entities; keys = S.keys; attributes = S.attributes; path_eqs = path_eqs; obs_eqs = obs_eqs })
bare_whole S schema path_eqs obs_eqs p o = record {
  typeside = schema.typeside;
  entity_numbers = schema.entity_numbers;
  key_numbers = schema.key_numbers;
  attribute_numbers = schema.attribute_numbers;
  distinct_sorts = schema.distinct_sorts;
  distinct_symbols = schema.distinct_symbols;
  keys = schema.keys;
  attributes = schema.attributes;
  path_eqs = λ n e at. let none : slice_get [] n ≡ Some e = ap (λ (l : List PathEq). slice_get l n) (sym p) ∙ at in cc;
  obs_eqs = λ n e at. let none : slice_get [] n ≡ Some e = ap (λ (l : List ObsEq). slice_get l n) (sym o) ∙ at in cc;
}

pub first_whole : (S T : Schema) → S ≡ T → IsSchema S → (path_eqs all_path_eqs : List PathEq) (obs_eqs all_obs_eqs : List ObsEq) → ArePathEqs T path_eqs → AreObsEqs T obs_eqs
    → all_path_eqs ≡ path_eqs ++ S.path_eqs → all_obs_eqs ≡ obs_eqs ++ S.obs_eqs
    → IsSchema (record { typeside = S.typeside; entities = S.entities; keys = S.keys; attributes = S.attributes; path_eqs = all_path_eqs; obs_eqs = all_obs_eqs })
first_whole S T same schema path_eqs all_path_eqs obs_eqs all_obs_eqs paths observations p o =
    let whole : with_first S path_eqs obs_eqs ≡ record { typeside = S.typeside; entities = S.entities; keys = S.keys; attributes = S.attributes; path_eqs = all_path_eqs; obs_eqs = all_obs_eqs } =
    λ i. record { typeside = S.typeside; entities = S.entities; keys = S.keys; attributes = S.attributes; path_eqs = sym p i; obs_eqs = sym o i } in
    subst IsSchema whole
    (with_first-is S schema path_eqs obs_eqs (subst (λ (X : Schema). ArePathEqs X path_eqs) (sym same) paths) (subst (λ (X : Schema). AreObsEqs X obs_eqs) (sym same) observations))

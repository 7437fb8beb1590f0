-- Leaves that are added one by one.
use Rattle.std.proofs.Common.{ℕ, List, [], ◌∷◌, ◌++◌, ◌≡◌, ◌+◌, map, length, refl, sym, ap, subst, ◌∙◌, arith, length-append, append_assoc}
use Rattle.std.specs.List.{filter_map, cons_option}
use Rattle.std.proofs.lemmas.List.{append-nil, length-map}
use Rattle.std.proofs.lemmas.List.Elements.{filter_map-append}
use Rattle.cq_base.specs.declared.name.Name.{Name}
use Rattle.cq_flat.specs.declared.node.Node.{Node}
use Rattle.cq_flat.specs.declared.node.Node.TheVariants.{Leaf}
use Rattle.cq_theory.specs.declared.presentation.Sort.{Sort}
use Rattle.cq_theory.specs.declared.presentation.Sort.TheVariants.{Plain, Entity}
use Rattle.cq_model.specs.LeafPlaces.{AddsLeaves, AddsGenerators, plain_type, places_from}
use Rattle.cq_model.specs.NodeListData.{NodeListData}
use Rattle.cq_instance.proofs.Lists.{map-append}

pub leaves_none : (list : NodeListData) → AddsLeaves list list []
leaves_none list = record { nodes = sym (append-nil list.nodes); types_are = sym (append-nil list.types); equations = refl }

-- one leaf more
pub leaves_more : (old mid new : NodeListData) (types : List ℕ) (kind : ℕ) → AddsLeaves old mid types
    → new ≡ record { nodes = mid.nodes ++ Leaf ∷ []; types = mid.types ++ kind ∷ []; equations = mid.equations } → AddsLeaves old new (types ++ kind ∷ [])
leaves_more old mid new types kind before added = record {
  nodes =
      ap (λ (l : NodeListData). l.nodes) added ∙ ap (λ (l : List Node). l ++ Leaf ∷ []) before.nodes ∙ append_assoc old.nodes (map (λ (_ : ℕ). Leaf) types) (Leaf ∷ [])
      ∙ ap (λ (l : List Node). old.nodes ++ l) (sym (map-append (λ (_ : ℕ). Leaf) types (kind ∷ [])));
  types_are = ap (λ (l : NodeListData). l.types) added ∙ ap (λ (l : List ℕ). l ++ kind ∷ []) before.types_are ∙ append_assoc old.types types (kind ∷ []);
  equations = ap (λ (l : NodeListData). l.equations) added ∙ before.equations;
}

-- the place of a generator that stands behind others
abbrev pub last_place : ℕ → List (Name × Sort) → Sort → ℕ
last_place next gs (Plain type) = next + length (filter_map plain_type gs)
last_place next gs (Entity entity) = 0

last_place-plain : (next type : ℕ) (name : Name) (gs : List (Name × Sort)) (s : Sort) → last_place (next + 1) gs s ≡ last_place next ((name, Plain type) ∷ gs) s
last_place-plain next type name gs (Plain kind) = let e : next + 1 + length (filter_map plain_type gs) ≡ next + length (type ∷ filter_map plain_type gs) = omega arith in e
last_place-plain next type name gs (Entity entity) = refl

last_place-entity : (next entity : ℕ) (name : Name) (gs : List (Name × Sort)) (s : Sort) → last_place next gs s ≡ last_place next ((name, Entity entity) ∷ gs) s
last_place-entity next entity name gs (Plain kind) = refl
last_place-entity next entity name gs (Entity entity') = refl

one_place : (next : ℕ) (name : Name) (s : Sort) → places_from next ((name, s) ∷ []) ≡ last_place next [] s ∷ []
one_place next name (Plain kind) = let e : next ≡ next + 0 = omega arith in ap (λ n. n ∷ []) e
one_place next name (Entity entity) = refl

-- the places of one generator more
pub places_more : (next : ℕ) (gs : List (Name × Sort)) (name : Name) (s : Sort) → places_from next (gs ++ (name, s) ∷ []) ≡ places_from next gs ++ last_place next gs s ∷ []
places_more next [] name s = one_place next name s
places_more next ((name', Plain type) ∷ gs) name s =
    ap (λ (l : List ℕ). next ∷ l) (places_more (next + 1) gs name s) ∙ ap (λ n. next ∷ (places_from (next + 1) gs ++ n ∷ [])) (last_place-plain next type name' gs s)
places_more next ((name', Entity entity) ∷ gs) name s =
    ap (λ (l : List ℕ). 0 ∷ l) (places_more next gs name s) ∙ ap (λ n. 0 ∷ (places_from next gs ++ n ∷ [])) (last_place-entity next entity name' gs s)

-- a generator of a type, or of an entity, is added
pub generators_none : (list : NodeListData) → AddsGenerators list list [] []
generators_none list = record { added = leaves_none list; places_are = refl }

generator_kinds : (gs : List (Name × Sort)) (name : Name) (s : Sort) → filter_map plain_type (gs ++ (name, s) ∷ []) ≡ filter_map plain_type gs ++ cons_option (plain_type (name, s)) []
generator_kinds gs name s = filter_map-append plain_type gs ((name, s) ∷ [])

pub generators_plain : (old mid new : NodeListData) (gs : List (Name × Sort)) (places : List ℕ) (name : Name) (type place : ℕ) → AddsGenerators old mid gs places → place ≡ length mid.nodes
    → new ≡ record { nodes = mid.nodes ++ Leaf ∷ []; types = mid.types ++ type ∷ []; equations = mid.equations } → AddsGenerators old new (gs ++ (name, Plain type) ∷ []) (places ++ place ∷ [])
generators_plain old mid new gs places name type place before place_is added = record {
  added = subst (AddsLeaves old new) (sym (generator_kinds gs name (Plain type))) (leaves_more old mid new (filter_map plain_type gs) type before.added added);
  places_are = (λ i. before.places_are i ++ there i ∷ []) ∙ sym (places_more (length old.nodes) gs name (Plain type));
}
  where
    there : place ≡ length old.nodes + length (filter_map plain_type gs)
    there =
        place_is ∙ ap length before.added.nodes ∙ length-append old.nodes (map (λ (_ : ℕ). Leaf) (filter_map plain_type gs))
        ∙ ap (λ n. length old.nodes + n) (length-map (filter_map plain_type gs) (λ (_ : ℕ). Leaf))

pub generators_entity : (old mid : NodeListData) (gs : List (Name × Sort)) (places : List ℕ) (name : Name) (entity : ℕ) → AddsGenerators old mid gs places
    → AddsGenerators old mid (gs ++ (name, Entity entity) ∷ []) (places ++ 0 ∷ [])
generators_entity old mid gs places name entity before = record {
  added = subst (AddsLeaves old mid) (sym (generator_kinds gs name (Entity entity) ∙ append-nil (filter_map plain_type gs))) before.added;
  places_are = ap (λ (l : List ℕ). l ++ 0 ∷ []) before.places_are ∙ sym (places_more (length old.nodes) gs name (Entity entity));
}

-- The places of cells and of generators of types among the first nodes.
use Rattle.std.specs.Prelude.{ℕ, List, [], ◌∷◌, ◌++◌, Option, Some, None, ◌≡◌, ◌+◌, ◌*◌, map, length, slice_get, slice_index}
use Rattle.std.specs.Prelude.{slice_index_or}
use Rattle.std.specs.List.{filter_map}
use Rattle.cq_base.specs.declared.name.Name.{Name}
use Rattle.cq_flat.specs.declared.node.Node.TheVariants.{Leaf}
use Rattle.cq_theory.specs.declared.presentation.Sort.{Sort}
use Rattle.cq_theory.specs.declared.presentation.Sort.TheVariants.{Plain, Entity}
use Rattle.cq_theory.specs.SchemaData.{SchemaData}
use Rattle.cq_names.specs.Ranks.{rank}
use Rattle.cq_model.specs.NodeListData.{NodeListData}

-- the entity and the type of each attribute
abbrev pub sources : SchemaData → List ℕ
sources S = map (λ edge. edge.from) S.attributes

abbrev pub targets : SchemaData → List ℕ
targets S = map (λ edge. edge.to) S.attributes

-- the first cell of each row stands behind those of the earlier rows of its entity
abbrev pub AreFirsts : List ℕ → List ℕ → List (List ℕ) → List ℕ → List ℕ → Type 0
AreFirsts members rows attributes starts firsts = (p r e : ℕ) → slice_get rows p ≡ Some r → slice_get members p ≡ Some e
    → slice_index firsts r ≡ slice_index starts e + rank members e p * length (slice_index_or attributes e [])

-- a leaf for each type
pub record AddsLeaves (old new : NodeListData) (types : List ℕ) : Type 0 where
  pub nodes : new.nodes ≡ old.nodes ++ map (λ _. Leaf) types
  pub types_are : new.types ≡ old.types ++ types
  pub equations : new.equations ≡ old.equations

-- the type of a generator, if it has one
abbrev pub plain_type : Name × Sort → Option ℕ
plain_type g = elim g.1 [ Plain type ↦ Some type | Entity entity ↦ None ]

-- the places of the generators of types, from a first place on
abbrev pub places_from : ℕ → List (Name × Sort) → List ℕ
places_from next [] = []
places_from next (g ∷ gs) = elim g.1 [ Plain type ↦ next ∷ places_from (next + 1) gs | Entity entity ↦ 0 ∷ places_from next gs ]

-- a leaf for each generator of a type
pub record AddsGenerators (old new : NodeListData) (generators : List (Name × Sort)) (places : List ℕ) : Type 0 where
  pub added : AddsLeaves old new (filter_map plain_type generators)
  pub places_are : places ≡ places_from (length old.nodes) generators

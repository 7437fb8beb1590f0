-- Well-sorted schemas.
use Rattle.std.specs.Prelude.{ℕ, List, [], ◌∷◌, ◌++◌, Some, ◌≡◌, ◌<◌, ◌≤◌, ◌^◌, map, slice_get, length, All}
use Rattle.cq_base.specs.declared.name.Name.{Name}
use Rattle.cq_base.specs.Names.{AreDistinct}
use Rattle.cq_theory.specs.declared.presentation.Sort.TheVariants.{Entity}
use Rattle.cq_theory.specs.declared.schema.Edge.{Edge}
use Rattle.cq_theory.specs.declared.schema.PathEq.{PathEq}
use Rattle.cq_theory.specs.declared.schema.ObsEq.{ObsEq}
use Rattle.cq_theory.specs.SchemaData.{SchemaData as Schema}
use Rattle.cq_theory.specs.Sorts.{Generators, target_of, type_of}
use Rattle.cq_theory.specs.Typeside.{IsTypeside, function_names}
use Rattle.cq_theory.specs.TypeTerm.{symbols_of}

abbrev pub edge_names : List Edge → List Name
edge_names edges = map (λ edge. edge.name) edges

-- the names of types and entities
abbrev pub sort_names : Schema → List Name
sort_names S = S.typeside.types ++ S.entities

-- the names of functions, foreign keys and attributes
abbrev pub symbol_names : Schema → List Name
symbol_names S = function_names S.typeside ++ edge_names S.keys ++ edge_names S.attributes

-- one generator of the entity: the variable of an equation
abbrev pub one_of : ℕ → Generators
one_of entity = ([], Entity entity) ∷ []

-- both sides lead from the entity to one entity, and have at most 1,024 symbols
pub record IsPathEq (S : Schema) (e : PathEq) : Type 0 where
  pub target : ℕ
  pub left : target_of S.keys e.left e.entity ≡ Some target
  pub right : target_of S.keys e.right e.entity ≡ Some target
  pub entity : e.entity < length S.entities
  pub left_fits : length e.left < 1024
  pub right_fits : length e.right < 1024

-- both sides are terms of one type over a variable of the entity, and have at most 1,024 symbols
pub record IsObsEq (S : Schema) (e : ObsEq) : Type 0 where
  pub type : ℕ
  pub left : type_of S (one_of e.entity) e.left ≡ Some type
  pub right : type_of S (one_of e.entity) e.right ≡ Some type
  pub entity : e.entity < length S.entities
  pub left_fits : symbols_of e.left ≤ 1024
  pub right_fits : symbols_of e.right ≤ 1024

-- The names of each table are distinct, entities and types are in range, equations are well sorted and within the limit,
-- and the lists are short enough for numbers of 32 bits.
pub record IsSchema (S : Schema) : Type 0 where
  pub typeside : IsTypeside S.typeside
  pub entity_numbers : length S.entities < 2 ^ 32
  pub key_numbers : length S.keys < 2 ^ 32
  pub attribute_numbers : length S.attributes < 2 ^ 32
  pub distinct_sorts : AreDistinct (sort_names S)
  pub distinct_symbols : AreDistinct (symbol_names S)
  pub keys : All (λ edge. (edge.from < length S.entities) × (edge.to < length S.entities)) S.keys
  pub attributes : All (λ edge. (edge.from < length S.entities) × (edge.to < length S.typeside.types)) S.attributes
  pub path_eqs : (n : ℕ) (e : PathEq) → slice_get S.path_eqs n ≡ Some e → IsPathEq S e
  pub obs_eqs : (n : ℕ) (e : ObsEq) → slice_get S.obs_eqs n ≡ Some e → IsObsEq S e

-- A schema with more equations before its own.
use Rattle.std.specs.Prelude.{ℕ, List, ◌++◌, Some, ◌≡◌, slice_get}
use Rattle.cq_theory.specs.declared.schema.PathEq.{PathEq}
use Rattle.cq_theory.specs.declared.schema.ObsEq.{ObsEq}
use Rattle.cq_theory.specs.SchemaData.{SchemaData as Schema}
use Rattle.cq_theory.specs.Schema.{IsPathEq, IsObsEq}

-- each of these is a well-sorted equation of the schema
abbrev pub ArePathEqs : Schema → List PathEq → Type 0
ArePathEqs S path_eqs = (n : ℕ) (e : PathEq) → slice_get path_eqs n ≡ Some e → IsPathEq S e

abbrev pub AreObsEqs : Schema → List ObsEq → Type 0
AreObsEqs S obs_eqs = (n : ℕ) (e : ObsEq) → slice_get obs_eqs n ≡ Some e → IsObsEq S e

abbrev pub with_first : Schema → List PathEq → List ObsEq → Schema
with_first S path_eqs obs_eqs = record {
  typeside = S.typeside;
  entities = S.entities;
  keys = S.keys;
  attributes = S.attributes;
  path_eqs = path_eqs ++ S.path_eqs;
  obs_eqs = obs_eqs ++ S.obs_eqs;
}

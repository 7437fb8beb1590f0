-- What a mapping has to preserve: the equations of its source.
use Rattle.std.specs.Prelude.{ℕ, Bool, List, [], ◌++◌, Some, ◌≡◌, map, slice_get}
use Rattle.std.specs.List.{list_any}
use Rattle.cq_theory.specs.declared.presentation.Equation.TheVariants.{Ent, Typ}
use Rattle.cq_theory.specs.declared.presentation.Presentation.{Presentation}
use Rattle.cq_theory.specs.declared.schema.PathEq.{PathEq}
use Rattle.cq_theory.specs.declared.schema.ObsEq.{ObsEq}
use Rattle.cq_theory.specs.Schema.{one_of}
use Rattle.cq_theory.specs.Presentation.{has_long_side}
use Rattle.cq_theory.specs.Derivation.{left_of, right_of, Derives}
use Rattle.cq_mapping.specs.declared.duties.Duty.{Duty}
use Rattle.cq_mapping.specs.MappingData.{MappingData as Mapping}
use Rattle.cq_mapping.specs.Images.{entity_image, path_image, type_image, sigma}

-- the image of an equation, over one generator of the image of its entity
abbrev pub path_duty : Mapping → PathEq → Duty
path_duty F e = record {
  schema_entity = entity_image F e.entity;
  equation = Ent (record { generator = 0; path = path_image F e.left }) (record { generator = 0; path = path_image F e.right });
}

abbrev pub observation_duty : Mapping → ObsEq → Duty
observation_duty F e = record {
  schema_entity = entity_image F e.entity;
  equation = Typ (type_image F e.left) (type_image F e.right);
}

-- the path equations of the source, and then its observation equations
abbrev pub duties_of : Mapping → List Duty
duties_of F = map (path_duty F) F.source.path_eqs ++ map (observation_duty F) F.source.obs_eqs

-- one generator, and no equations
abbrev pub one_generator : ℕ → Presentation
one_generator entity = record { generators = one_of entity; equations = [] }

abbrev pub IsDerivable : Mapping → Duty → Type 0
IsDerivable F duty = Derives F.target (one_generator duty.schema_entity) (left_of duty.equation) (right_of duty.equation)

-- each duty is derivable
abbrev pub Preserves : Mapping → Type 0
Preserves F = (n : ℕ) (duty : Duty) → slice_get (duties_of F) n ≡ Some duty → IsDerivable F duty

-- some side of the image of the presentation has over 1,024 symbols
abbrev pub is_too_large : Mapping → Presentation → Bool
is_too_large F P = list_any has_long_side (sigma F P).equations

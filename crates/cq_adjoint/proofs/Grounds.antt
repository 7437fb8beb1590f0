-- A generator is a term over its instance.
use Rattle.std.proofs.Common.{ℕ, [], Option, Some, ◌≡◌, ap, ◌∙◌}
use Rattle.std.specs.Prelude.{slice_get, option_map, option_and_then}
use Rattle.cq_base.specs.declared.name.Name.{Name}
use Rattle.cq_theory.specs.declared.presentation.Sort.{Sort}
use Rattle.cq_theory.specs.declared.presentation.Sort.TheVariants.{Plain, Entity}
use Rattle.cq_theory.specs.Sorts.{target_of, entity_at, type_at, type_step}
use Rattle.cq_theory.proofs.TypeTerms.{fold-Gen}
use Rattle.cq_mapping.specs.MappingData.{MappingData as Mapping}
use Rattle.cq_mapping.specs.Images.{sort_image}
use Rattle.cq_instance.specs.InstanceData.{InstanceData}
use Rattle.cq_adjoint.specs.Spellable.{IsGenerator}

pub generator_ground : (i : InstanceData) (n : ℕ) (name : Name) (sort : Sort) → slice_get i.presentation.generators n ≡ Some (name, sort) → IsGenerator i n sort
generator_ground i n name (Entity e) at = (Entity e, ap (λ (o : Option (Name × Sort)). option_map Entity (option_and_then (target_of i.schema.keys []) (entity_at o))) at)
generator_ground i n name (Plain type) at = (
  Plain type,
  ap (option_map Plain) (fold-Gen (Option ℕ) (type_step i.schema i.presentation.generators) n ∙ ap type_at at),
)

pub image_ground : (F : Mapping) (i : InstanceData) (n : ℕ) (sort : Sort) → IsGenerator i n (sort_image F sort) → IsGenerator i n sort
image_ground F i n (Entity e) h = h
image_ground F i n (Plain type) h = h

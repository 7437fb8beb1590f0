-- Transforms out of sigma and into delta that say the same.
use Rattle.std.specs.Prelude.{ℕ, Some, ◌≡◌, slice_get}
use Rattle.cq_base.specs.declared.name.Name.{Name}
use Rattle.cq_theory.specs.declared.presentation.Sort.{Sort}
use Rattle.cq_theory.specs.Homomorphism.{IsHomomorphism}
use Rattle.cq_mapping.specs.MappingData.{MappingData as Mapping}
use Rattle.cq_mapping.specs.Images.{sort_image}
use Rattle.cq_instance.specs.InstanceData.{InstanceData}
use Rattle.cq_instance.specs.declared.transform.Transform.{Transform}
use Rattle.cq_adjoint.specs.Moves.{sent}

-- h goes from a, which is sigma of i, to j, and k from i to d, which is delta of j: for each generator of i, k makes of
-- what it stands for in i what h makes of what it stands for in a
abbrev pub Transposed : Mapping → (i a j d : InstanceData) → (h k : Transform) → Type 0
Transposed F i a j d h k = (n : ℕ) (g : Name × Sort) → slice_get i.presentation.generators n ≡ Some g
    → sent i d k g.1 n ≡ sent a j h (sort_image F g.1) n

-- k is the only homomorphism from i to d that is transposed to h
abbrev pub IsOnlyInto : Mapping → (i a j d : InstanceData) → (h k : Transform) → Type 0
IsOnlyInto F i a j d h k = (other : Transform) → IsHomomorphism i.schema i.tables d.tables other.rows other.nulls
    → Transposed F i a j d h other → (other.rows ≡ k.rows) × (other.nulls ≡ k.nulls)

-- h is the only homomorphism from a to j to which k is transposed
abbrev pub IsOnlyOutOf : Mapping → (i a j d : InstanceData) → (h k : Transform) → Type 0
IsOnlyOutOf F i a j d h k = (other : Transform) → IsHomomorphism a.schema a.tables j.tables other.rows other.nulls
    → Transposed F i a j d other k → (other.rows ≡ h.rows) × (other.nulls ≡ h.nulls)

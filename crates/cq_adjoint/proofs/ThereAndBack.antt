-- Transforms that are transposed to one are one.
use Rattle.std.proofs.Common.{ℕ, Some, ◌≡◌, sym, ap, subst, ◌∙◌}
use Rattle.std.specs.Prelude.{slice_get, slice_index_or}
use Rattle.cq_base.specs.declared.name.Name.{Name}
use Rattle.cq_theory.specs.declared.presentation.Presentation.{Presentation}
use Rattle.cq_theory.specs.declared.presentation.Sort.{Sort}
use Rattle.cq_theory.specs.Schema.{IsSchema}
use Rattle.cq_theory.specs.Tables.{AtRow}
use Rattle.cq_mapping.specs.MappingData.{MappingData as Mapping}
use Rattle.cq_mapping.specs.Mapping.{IsMapping}
use Rattle.cq_mapping.specs.Images.{sort_image}
use Rattle.cq_instance.specs.InstanceData.{InstanceData}
use Rattle.cq_instance.specs.declared.transform.Transform.{Transform}
use Rattle.cq_instance.proofs.Lists.{get-map_from}
use Rattle.cq_transform.specs.Nulls.{IsInitial}
use Rattle.cq_transform.specs.Transforms.{meanings_in, GoesFrom}
use Rattle.cq_transform.proofs.ExactlyOne.{one_homomorphism}
use Rattle.cq_adjoint.specs.Moved.{IsSigmaOf}
use Rattle.cq_adjoint.specs.Moves.{sent}
use Rattle.cq_adjoint.specs.Transposed.{Transposed}

pub one_into : (F : Mapping) (i a j d : InstanceData) (h k k' : Transform) → IsSchema i.schema → IsInitial i → GoesFrom k i d → GoesFrom k' i d
    → Transposed F i a j d h k → Transposed F i a j d h k' → (k.rows ≡ k'.rows) × (k.nulls ≡ k'.nulls)
one_into F i a j d h k k' schema initial goes goes' says says' =
    one_homomorphism i.schema i.presentation i.tables d.tables i.assignment (meanings_in d k.images) schema initial.0 goes.holds k.rows k'.rows k.nulls k'.nulls
    goes.homomorphism goes.agrees goes'.homomorphism (λ n g at. says' n g at ∙ sym (says n g at) ∙ goes.agrees n g at)

pub one_out_of : (F : Mapping) (i a j d : InstanceData) (h h' k : Transform) → IsMapping F → IsSigmaOf F i a → GoesFrom h a j → GoesFrom h' a j
    → Transposed F i a j d h k → Transposed F i a j d h' k → (h.rows ≡ h'.rows) × (h.nulls ≡ h'.nulls)
one_out_of F i a j d h h' k is pushed goes goes' says says' =
    one_homomorphism a.schema a.presentation a.tables j.tables a.assignment (meanings_in j h.images) (subst IsSchema (sym pushed.schema) is.target) pushed.initial.0 goes.holds h.rows h'.rows h.nulls h'.nulls
    goes.homomorphism goes.agrees goes'.homomorphism agrees
  where
    agrees : (n : ℕ) (g : Name × Sort) → slice_get a.presentation.generators n ≡ Some g → sent a j h' g.1 n ≡ slice_index_or (meanings_in j h.images) n (AtRow 0)
    agrees n g at =
        let x = get-map_from (λ (y : Name × Sort). (y.0, sort_image F y.1)) i.presentation.generators n g (ap (λ (P : Presentation). slice_get P.generators n) (sym pushed.presentation) ∙ at) in
        let sort : sort_image F x.0.1 ≡ g.1 = ap (λ (y : Name × Sort). y.1) x.2 in
        ap (λ (s : Sort). sent a j h' s n) (sym sort) ∙ sym (says' n x.0 x.1) ∙ says n x.0 x.1 ∙ ap (λ (s : Sort). sent a j h s n) sort ∙ goes.agrees n g at

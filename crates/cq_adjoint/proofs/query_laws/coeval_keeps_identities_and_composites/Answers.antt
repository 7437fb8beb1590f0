use Rattle.std.proofs.Common.{List, [], ◌∷◌, refl, sym, ap, ◌∙◌}
use Rattle.cq_theory.specs.declared.presentation.Presentation.{Presentation}
use Rattle.cq_theory.proofs.OnValues.{All_at}
use Rattle.cq_instance.specs.InstanceData.{InstanceData, IsInstance}
use Rattle.cq_transform.specs.Identities.{identity_images}
use Rattle.cq_adjoint.proofs.CoevalComposites.{coeval_of_composite}
use Rattle.cq_adjoint.proofs.CoevalIdentities.{coeval_of_identity}
use Rattle.cq_adjoint.proofs.query_laws.coeval_keeps_identities_and_composites.Goals as goal

pub returns : goal.returns
returns c = record {
  identities = λ Q i a query coeval source there holds.
      coeval_of_identity Q query i a coeval source there holds ∙ ap (λ (P : Presentation). identity_images P.generators) (sym coeval.presentation);
  composites = λ Q i j k a b c h g s t u query all first second both.
      let of : List InstanceData = i ∷ j ∷ k ∷ a ∷ b ∷ c ∷ [] in
      coeval_of_composite Q query i j k a b c h g s t u first.copied first.copied_there second.copied_there
      (All_at IsInstance of 0 i all refl) (All_at IsInstance of 1 j all refl) (All_at IsInstance of 2 k all refl) (All_at IsInstance of 3 a all refl) (All_at IsInstance of 4 b all refl) (All_at IsInstance of 5 c all refl)
      first.below second.below first.above second.above both.above first.images second.images both.images;
}

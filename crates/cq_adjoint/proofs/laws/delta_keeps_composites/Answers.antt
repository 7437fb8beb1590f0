use Rattle.std.proofs.Common.{List, [], ◌∷◌, refl}
use Rattle.cq_theory.proofs.OnValues.{All_at}
use Rattle.cq_instance.specs.InstanceData.{InstanceData, IsInstance}
use Rattle.cq_adjoint.proofs.DeltaComposites.{delta_of_composite}
use Rattle.cq_adjoint.proofs.laws.delta_keeps_composites.Goals as goal

pub returns : goal.returns
returns c = λ F i j k a b c h g s t u is all first second both.
    let of : List InstanceData = i ∷ j ∷ k ∷ a ∷ b ∷ c ∷ [] in
    delta_of_composite F is i j k a b c h g s t u first.pulled first.pulled_there second.pulled_there
    (All_at IsInstance of 0 i all refl) (All_at IsInstance of 1 j all refl) (All_at IsInstance of 2 k all refl) (All_at IsInstance of 3 a all refl) (All_at IsInstance of 4 b all refl) (All_at IsInstance of 5 c all refl)
    first.below second.below first.above second.above both.above first.images second.images both.images

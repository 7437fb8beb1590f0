use Rattle.std.proofs.Common.{List, [], ◌∷◌, refl}
use Rattle.cq_theory.proofs.OnValues.{All_at}
use Rattle.cq_instance.specs.InstanceData.{InstanceData, IsInstance}
use Rattle.cq_adjoint.proofs.EvalComposites.{eval_of_composite}
use Rattle.cq_adjoint.proofs.EvalIdentities.{eval_of_identity}
use Rattle.cq_adjoint.proofs.query_laws.eval_keeps_identities_and_composites.Goals as goal

pub returns : goal.returns
returns c = record {
  identities = λ Q i a answers query are start. eval_of_identity Q query i a answers are start;
  composites = λ Q i j k a b c in_i in_j in_k h g s t u query all first second both.
      let of : List InstanceData = i ∷ j ∷ k ∷ a ∷ b ∷ c ∷ [] in
      eval_of_composite Q query i j k a b c in_i in_j in_k h g s t u first.evaluated.source first.evaluated.target second.evaluated.target
      first.evaluated.answered first.evaluated.answered_there second.evaluated.answered_there
      (All_at IsInstance of 0 i all refl) (All_at IsInstance of 1 j all refl) (All_at IsInstance of 2 k all refl) (All_at IsInstance of 3 a all refl) (All_at IsInstance of 4 b all refl) (All_at IsInstance of 5 c all refl)
      first.below second.below first.above second.above both.above first.images second.images both.images;
}

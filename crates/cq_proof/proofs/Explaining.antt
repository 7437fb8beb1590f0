-- Equations whose sides are different in the instance.
use Rattle.std.proofs.Common.{Bool, true, false, ◌≡◌, ◌↔◌}
use Rattle.std.proofs.lemmas.Bool.{iff_false}
use Rattle.cq_theory.specs.declared.presentation.Equation.{Equation}
use Rattle.cq_theory.specs.Derivation.{left_of, right_of}
use Rattle.cq_instance.specs.InstanceData.{InstanceData}
use Rattle.cq_proof.specs.declared.answer.Answer.TheVariants.{Different}
use Rattle.cq_proof.specs.Answers.{IsInitial, IsWellSorted, AreOne, Explains}

pub different : (i : InstanceData) (e : Equation) (one : Bool) → IsInitial i → IsWellSorted i.schema i.presentation e → (one ≡ true) ↔ AreOne i e → one ≡ false
    → Explains i e Different
different i e one initial equation same failed =
    let not_one : AreOne i e → ⊥ = iff_false same failed in
    (not_one, (λ derived. not_one ((initial.equal (left_of e) (right_of e) equation.sort equation.left equation.right).1 derived)))

-- Coproducts and pushouts of presentations are presentations, within the limits.
use Rattle.std.proofs.Common.{List, [], ◌∷◌, ◌++◌, ◌≡◌, false, length, subst, sym}
use Rattle.std.specs.Prelude.{All}
use Rattle.cq_theory.specs.declared.presentation.Equation.{Equation}
use Rattle.cq_theory.specs.declared.presentation.Presentation.{Presentation}
use Rattle.cq_theory.specs.declared.presentation.Sort.{Sort}
use Rattle.cq_theory.specs.Presentation.{IsPresentation, is_oversized}
use Rattle.cq_theory.specs.SchemaData.{SchemaData}
use Rattle.cq_instance.specs.InstanceData.{InstanceData}
use Rattle.cq_instance.specs.declared.transform.Transform.{Transform}
use Rattle.cq_transform.specs.Transforms.{GoesFrom}
use Rattle.cq_transform.specs.Gluing.{coproduct_of, equations_from, glued_images, pushout_of, sorts_of}
use Rattle.cq_push.proofs.Beside.{two_presented}
use Rattle.cq_push.proofs.Glued.{images_of}
use Rattle.cq_push.proofs.Limits.{is_presentation}
use Rattle.cq_push.proofs.Presented.{AreImagesOf, coproduct_sorted, pushout_sorted, sorts_in}

pub coproduct_is : (S : SchemaData) (parts : List Presentation) → All (IsPresentation S) parts → is_oversized (coproduct_of parts) ≡ false → IsPresentation S (coproduct_of parts)
coproduct_is S parts presented short = is_presentation S (sorts_of parts) (equations_from 0 parts) (sorts_in S parts presented) (coproduct_sorted S parts presented) short

pub pushout_is : (S : SchemaData) (f g : Transform) (start left right : InstanceData) → start.schema ≡ S → GoesFrom f start left → GoesFrom g start right
    → IsPresentation S left.presentation → IsPresentation S right.presentation → is_oversized (pushout_of f g left.presentation right.presentation) ≡ false
    → IsPresentation S (pushout_of f g left.presentation right.presentation)
pushout_is S f g start left right is to_left to_right on_left on_right short =
    let sorts : List Sort = sorts_of (left.presentation ∷ right.presentation ∷ []) in
    let equations : List Equation = equations_from 0 (left.presentation ∷ right.presentation ∷ []) ++ glued_images (length left.presentation.generators) f.images g.images in
    is_presentation S sorts equations (sorts_in S (left.presentation ∷ right.presentation ∷ []) (two_presented S left.presentation right.presentation on_left on_right))
    (pushout_sorted S left.presentation right.presentation f.images g.images on_left on_right
    (λ n l r at there. subst (λ (T : SchemaData). AreImagesOf T left.presentation right.presentation l r) is (images_of f g start left right to_left to_right n l r at there))) short

-- the same of equal transforms and instances
pub goes_as : (t u : Transform) (i k j l : InstanceData) → t ≡ u → i ≡ k → j ≡ l → GoesFrom u k l → GoesFrom t i j
goes_as t u i k j l transforms starts finishes goes =
    let same : GoesFrom u k l ≡ GoesFrom t i j = λ n. GoesFrom (sym transforms n) (sym starts n) (sym finishes n) in
    subst (λ (Y : Type 0). Y) same goes

use Rattle.std.proofs.Common.{List, true, ◌≡◌, ◌⊎◌, sym, subst, ◌∙◌}
use Rattle.cq_theory.specs.declared.refusal.SizeRefusal.TheVariants.{TooLarge, Memory}
use Rattle.cq_instance.specs.declared.transform.Image.{Image}
use Rattle.cq_transform.specs.Composing.{composed_images, has_long}
use Rattle.cq_transform.proofs.composing.images_of.Goals as goal

pub returns-in-Ok-clause-accepted : goal.returns-in-Ok-clause-accepted
returns-in-Ok-clause-accepted c = (λ k. has_long (composed_images (sym c.as_slice.ensures k) (sym c.as_slice-2.ensures k))) ∙ c.in-Ok.ensures.accepted

pub returns-in-Ok-clause-made : goal.returns-in-Ok-clause-made
returns-in-Ok-clause-made c = c.in-Ok.ensures.made ∙ (λ k. composed_images (c.as_slice.ensures k) (c.as_slice-2.ensures k))

pub returns-in-Err-clause-refused : goal.returns-in-Err-clause-refused
returns-in-Err-clause-refused c =
    subst (λ (x : List Image × List Image). (c.in-Err.refusal ≡ Memory) ⊎ ((c.in-Err.refusal ≡ TooLarge) × (has_long (composed_images x.0 x.1) ≡ true)))
    (λ k. (c.as_slice.ensures k, c.as_slice-2.ensures k)) c.in-Err.ensures.refused

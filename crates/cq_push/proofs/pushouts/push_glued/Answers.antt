use Rattle.std.proofs.Common.{[], ◌∷◌, ◌++◌, ap, ◌∙◌}
use Rattle.cq_theory.specs.declared.presentation.Equation.{Equation}
use Rattle.cq_transform.specs.Gluing.{glued}
use Rattle.cq_push.proofs.Glued.{glued_more, glued_all}
use Rattle.cq_push.proofs.pushouts.push_glued.Goals as goal

pub loop-place-preserved : goal.loop-place-preserved
loop-place-preserved c =
    glued_more c.args.first c.args.lefts.now c.args.rights.now c.loop-place.place c.index-lefts-place.result c.index-rights-place.result
    c.args.made.now.items c.loop-place.made.items c.push.new.self.items c.loop-place-test.true c.requires c.loop-place.invariant
    (c.in_ok-push.ensures.items ∙ ap (λ (e : Equation). c.loop-place.made.items ++ e ∷ [])
    (c.in_ok-glue_images.ensures ∙ (λ j. glued c.args.first (c.index-lefts-place.is j) (c.index-rights-place.is j))))

pub returns : goal.returns
returns c = glued_all c.args.first c.args.lefts.now c.args.rights.now c.loop-place.place c.args.made.now.items c.loop-place.made.items c.loop-place-test.false c.requires c.loop-place.invariant

use Rattle.std.proofs.Common.{[], ◌∷◌, ◌++◌, ◌≡◌, get_or, sym, ap, ◌∙◌}
use Rattle.cq_base.specs.declared.name.Name.{Name}
use Rattle.cq_theory.specs.declared.presentation.Sort.{Sort}
use Rattle.std.proofs.lemmas.List.{take_all}
use Rattle.cq_instance.proofs.Enumerated.{enumerated_more}
use Rattle.cq_transform.specs.Identities.{identity_images, itself}
use Rattle.cq_transform.proofs.identities.own_images.Goals as goal

pub loop-number-preserved : goal.loop-number-preserved
loop-number-preserved c =
    let image : c.own_image.result ≡ itself (c.loop-number.number, get_or c.args.generators.now c.loop-number.number c.index-generators-number.result) =
    c.own_image.ensures c.index-generators-number.result.0 ∙ ap (λ (g : Name × Sort). itself (c.loop-number.number, g)) c.index-generators-number.is in
    c.in_ok-push.ensures.items ∙ (λ j. c.loop-number.invariant j ++ image j ∷ [])
    ∙ sym (enumerated_more itself c.args.generators.now c.loop-number.number c.index-generators-number.result c.loop-number-test.true)

pub returns : goal.returns
returns c = c.loop-number.invariant ∙ ap identity_images (take_all c.loop-number.number c.args.generators.now c.loop-number-test.false)

use Rattle.std.proofs.Common.{[], ◌∷◌, map, sym, ap, subst, ◌∙◌}
use Rattle.std.proofs.lemmas.List.{map-append, take_all}
use Rattle.cq_theory.specs.Sorts.{IsGround}
use Rattle.cq_theory.specs.Tables.{meaning_of}
use Rattle.cq_theory.proofs.PartLoops.{map_more}
use Rattle.cq_instance.specs.Standing.{meaning}
use Rattle.cq_instance.specs.declared.transform.Image.{Image}
use Rattle.cq_transform.specs.Transforms.{meanings_in, term_of}
use Rattle.cq_transform.proofs.meant.standings.Goals as goal

pub standing-requires : goal.standing-requires
standing-requires c =
    subst (λ (image : Image). IsGround c.args.target.now.schema c.args.target.now.presentation (term_of image)) (sym c.image-item.is)
    (c.requires c.loop-image.image-index c.image-item.result c.loop-image-test.true)

pub loop-image-preserved : goal.loop-image-preserved
loop-image-preserved c =
    let j = c.args.target.now in
    let standings = c.loop-image.standings.items in
    map_more (λ (image : Image). meaning_of j.tables j.assignment (term_of image)) c.args.images.now c.loop-image.image-index c.image-item.result (map meaning standings) _ _ c.loop-image-test.true
    c.image-item.is c.loop-image.invariant c.in_ok-standing.ensures (ap (map meaning) c.in_ok-push.ensures.items ∙ map-append meaning standings (c.in_ok-standing.field-0 ∷ []))

pub returns : goal.returns
returns c = c.loop-image.invariant ∙ ap (meanings_in c.args.target.now) (take_all c.loop-image.image-index c.args.images.now c.loop-image-test.false)

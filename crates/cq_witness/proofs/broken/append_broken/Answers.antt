use Rattle.std.proofs.Common.{◌≡◌, ◌<◌, length, subst, ◌∙◌}
use Rattle.std.specs.Prelude.{MatchOption}
use Rattle.cq_transform.specs.Images.{images_made}
use Rattle.cq_witness.proofs.Kept.{tells_broken}
use Rattle.cq_witness.proofs.broken.append_broken.Goals as goal

pub returns : goal.returns
returns c =
    let ends = c.args.ends.now in
    let i = ends.start.now in
    let j = ends.finish.now in
    let parts = c.args.parts.now in
    let images = subst (λ o. MatchOption o (16000000 < length parts) (λ l. l.items ≡ images_made i j parts)) c.in-Some-2.is c.in_ok-images.ensures in
    tells_broken ends.source.now ends.target.now i j parts c.args.number c.in-Some.equation.now c.in_ok-image.image c.deref.result.now c.args.out.now.items _ _ _ c.in-Some.ensures
    (c.deref.ensures.value ∙ images) c.in_ok-image.ensures c.in_ok-append_kept.ensures c.in_ok-append_sides.ensures c.in_ok-append_phrase.ensures

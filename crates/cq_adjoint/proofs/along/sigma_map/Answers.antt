use Rattle.std.proofs.Common.{map, sym, ap, subst, ◌∙◌}
use Rattle.cq_transform.specs.Composing.{has_long}
use Rattle.cq_transform.specs.Transforming.{AreKept, AreSorted}
use Rattle.cq_adjoint.specs.Moves.{image_along}
use Rattle.cq_adjoint.proofs.AlongImages as lemmas
use Rattle.cq_adjoint.proofs.along.sigma_map.Goals as goal

pub transform_of_images-requires-clause-schema : goal.transform_of_images-requires-clause-schema
transform_of_images-requires-clause-schema c = c.requires.second.schema ∙ sym c.requires.first.schema

pub transform_of_images-requires-clause-sorted : goal.transform_of_images-requires-clause-sorted
transform_of_images-requires-clause-sorted c =
    subst (AreSorted c.args.a.now c.args.b.now) (sym (c.in_ok-images.ensures.made ∙ ap (map (image_along c.args.mapping.now)) c.as_slice.ensures))
    (lemmas.sorted c.args.mapping.now c.is_well_sorted.ensures c.requires.preserves c.args.i.now c.args.j.now c.args.a.now c.args.b.now c.requires.first c.requires.second c.is_instance.ensures
    c.is_instance-2.ensures c.is_instance-3.ensures c.requires.initial c.args.h.now c.requires.goes)

pub transform_of_images-requires-clause-kept : goal.transform_of_images-requires-clause-kept
transform_of_images-requires-clause-kept c =
    subst (AreKept c.args.a.now c.args.b.now) (sym (c.in_ok-images.ensures.made ∙ ap (map (image_along c.args.mapping.now)) c.as_slice.ensures))
    (lemmas.kept c.args.mapping.now c.is_well_sorted.ensures c.requires.preserves c.args.i.now c.args.j.now c.args.a.now c.args.b.now c.requires.first c.requires.second c.is_instance.ensures
    c.is_instance-2.ensures c.is_instance-3.ensures c.requires.initial c.args.h.now c.requires.goes)

pub returns-in-Ok-clause-images : goal.returns-in-Ok-clause-images
returns-in-Ok-clause-images c = c.in-Ok.ensures.images ∙ c.in_ok-images.ensures.made ∙ ap (map (image_along c.args.mapping.now)) c.as_slice.ensures

pub returns-in-Ok-clause-fits : goal.returns-in-Ok-clause-fits
returns-in-Ok-clause-fits c = ap has_long (sym (c.in_ok-images.ensures.made ∙ ap (map (image_along c.args.mapping.now)) c.as_slice.ensures)) ∙ c.in_ok-images.ensures.fits

pub returns-in-Ok-clause-goes : goal.returns-in-Ok-clause-goes
returns-in-Ok-clause-goes c = c.in-Ok.ensures.goes c.requires.first.initial

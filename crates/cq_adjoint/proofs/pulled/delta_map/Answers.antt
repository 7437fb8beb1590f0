use Rattle.std.proofs.Common.{◌∙◌}
use Rattle.cq_adjoint.proofs.DeltaMap as lemmas
use Rattle.cq_adjoint.proofs.pulled.delta_map.Goals as goal

pub transform_of_images-requires-clause-schema : goal.transform_of_images-requires-clause-schema
transform_of_images-requires-clause-schema c =
    lemmas.schema_is c.args.mapping.now c.is_well_sorted.ensures c.args.i.now c.args.j.now c.args.a.now c.args.b.now c.is_instance.ensures c.is_instance-2.ensures c.is_instance-3.ensures
    c.is_instance-4.ensures c.requires.first c.requires.second c.args.h.now c.requires.goes

pub returns-in-Ok-clause-images : goal.returns-in-Ok-clause-images
returns-in-Ok-clause-images c = c.in-Ok.ensures.images ∙ c.in_ok-images.ensures.images

pub returns-in-Ok-clause-goes : goal.returns-in-Ok-clause-goes
returns-in-Ok-clause-goes c =
    c.in-Ok.ensures.goes
    (lemmas.start_initial c.args.mapping.now c.is_well_sorted.ensures c.args.i.now c.args.j.now c.args.a.now c.args.b.now c.is_instance.ensures c.is_instance-2.ensures c.is_instance-3.ensures
    c.is_instance-4.ensures c.requires.first c.requires.second c.args.h.now c.requires.goes)

use Rattle.std.proofs.Common.{sym, subst, ◌∙◌}
use Rattle.cq_theory.specs.Schema.{IsSchema}
use Rattle.cq_adjoint.proofs.ToDelta as lemmas
use Rattle.cq_adjoint.proofs.pulled.to_delta.Goals as goal

pub transform_of_images-requires-clause-schema : goal.transform_of_images-requires-clause-schema
transform_of_images-requires-clause-schema c =
    lemmas.schema_is c.args.mapping.now c.is_well_sorted.ensures c.args.i.now c.args.a.now c.args.j.now c.args.d.now c.is_instance.ensures c.is_instance-2.ensures c.is_instance-3.ensures
    c.is_instance-4.ensures c.requires.pushed c.requires.pulled c.args.h.now c.requires.goes

pub returns-in-Ok-clause-images : goal.returns-in-Ok-clause-images
returns-in-Ok-clause-images c = c.in-Ok.ensures.images ∙ c.in_ok-images.ensures.images

pub returns-in-Ok-clause-transposed : goal.returns-in-Ok-clause-transposed
returns-in-Ok-clause-transposed c =
    lemmas.transposed c.args.mapping.now c.is_well_sorted.ensures c.args.i.now c.args.a.now c.args.j.now c.args.d.now c.is_instance.ensures c.is_instance-2.ensures c.is_instance-3.ensures
    c.is_instance-4.ensures c.requires.pushed c.requires.pulled c.args.h.now c.requires.goes c.in-Ok.made (c.in-Ok.ensures.images ∙ c.in_ok-images.ensures.images) (c.in-Ok.ensures.goes c.requires.initial)

pub returns-in-Ok-clause-only : goal.returns-in-Ok-clause-only
returns-in-Ok-clause-only c =
    lemmas.only c.args.mapping.now c.is_well_sorted.ensures c.args.i.now c.args.a.now c.args.j.now c.args.d.now c.is_instance.ensures c.is_instance-2.ensures c.is_instance-3.ensures
    c.is_instance-4.ensures c.requires.pushed c.requires.pulled c.args.h.now c.requires.goes c.in-Ok.made (c.in-Ok.ensures.images ∙ c.in_ok-images.ensures.images) (c.in-Ok.ensures.goes c.requires.initial)
    (subst IsSchema (sym c.requires.pushed.over) c.is_well_sorted.ensures.source) c.requires.initial

use Rattle.std.proofs.Common.{sym, subst, ◌∙◌}
use Rattle.cq_theory.specs.Schema.{IsSchema}
use Rattle.cq_instance.specs.Spelling.{term_among}
use Rattle.cq_adjoint.proofs.FromDelta as lemmas
use Rattle.cq_adjoint.proofs.pushed.from_delta_by.Goals as goal

pub transform_of_images-requires-clause-schema : goal.transform_of_images-requires-clause-schema
transform_of_images-requires-clause-schema c =
    lemmas.schema_is c.args.mapping.now c.is_well_sorted.ensures c.args.i.now c.args.a.now c.args.naming.now.to.now c.args.d.now c.is_instance.ensures c.is_instance-2.ensures c.is_instance-3.ensures
    c.requires.initial c.requires.least c.requires.pushed c.requires.pulled (term_among c.args.naming.now.null_terms.now) c.requires.spelled c.args.k.now c.requires.goes

pub returns-in-Ok-clause-images : goal.returns-in-Ok-clause-images
returns-in-Ok-clause-images c = c.in-Ok.ensures.images ∙ c.in_ok-images.ensures.images

pub returns-in-Ok-clause-goes : goal.returns-in-Ok-clause-goes
returns-in-Ok-clause-goes c = c.in-Ok.ensures.goes c.requires.pushed.initial

pub returns-in-Ok-clause-transposed : goal.returns-in-Ok-clause-transposed
returns-in-Ok-clause-transposed c =
    lemmas.transposed c.args.mapping.now c.is_well_sorted.ensures c.args.i.now c.args.a.now c.args.naming.now.to.now c.args.d.now c.is_instance.ensures c.is_instance-2.ensures c.is_instance-3.ensures
    c.requires.initial c.requires.least c.requires.pushed c.requires.pulled (term_among c.args.naming.now.null_terms.now) c.requires.spelled c.args.k.now c.requires.goes
    c.in-Ok.made (c.in-Ok.ensures.images ∙ c.in_ok-images.ensures.images) (c.in-Ok.ensures.goes c.requires.pushed.initial)

pub returns-in-Ok-clause-only : goal.returns-in-Ok-clause-only
returns-in-Ok-clause-only c =
    lemmas.only c.args.mapping.now c.is_well_sorted.ensures c.args.i.now c.args.a.now c.args.naming.now.to.now c.args.d.now c.is_instance.ensures c.is_instance-2.ensures c.is_instance-3.ensures
    c.requires.initial c.requires.least c.requires.pushed c.requires.pulled (term_among c.args.naming.now.null_terms.now) c.requires.spelled c.args.k.now c.requires.goes
    c.in-Ok.made (c.in-Ok.ensures.images ∙ c.in_ok-images.ensures.images) (c.in-Ok.ensures.goes c.requires.pushed.initial)
    (subst IsSchema (sym c.requires.pushed.schema) c.is_well_sorted.ensures.target)

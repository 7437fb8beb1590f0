use Rattle.std.proofs.Common.{List, sym, ap, subst, ◌∙◌, arith}
use Rattle.std.specs.Prelude.{length}
use Rattle.cq_theory.specs.declared.presentation.Presentation.{Presentation}
use Rattle.cq_instance.specs.declared.transform.Image.{Image}
use Rattle.cq_move.specs.Pulling.{TellsSize}
use Rattle.cq_transform.specs.Composing.{has_long}
use Rattle.cq_transform.specs.Transforming.{AreKept, AreSorted}
use Rattle.cq_adjoint.specs.Moves.{each_generator}
use Rattle.cq_adjoint.specs.Nameable.{AreNameable, moved_name}
use Rattle.cq_instance.specs.Spelling.{term_among}
use Rattle.cq_adjoint.proofs.FromDelta as lemmas
use Rattle.cq_adjoint.proofs.pushed.from_delta_images.Goals as goal

pub named_images-requires-clause-few : goal.named_images-requires-clause-few
named_images-requires-clause-few c =
    omega (arith, c.presentation-presentation.ensures.instance.presented.count, ap length (c.as_slice.ensures ∙ ap (λ (P : Presentation). P.generators) c.presentation-presentation.ensures.presentation))

pub named_images-requires-clause-nameable : goal.named_images-requires-clause-nameable
named_images-requires-clause-nameable c =
    subst (AreNameable c.args.mapping.now c.args.k.now c.args.i.now c.args.naming.now.to.now) (sym (c.as_slice.ensures ∙ ap (λ (P : Presentation). P.generators) c.presentation-presentation.ensures.presentation))
    (lemmas.nameable c.args.mapping.now c.is_well_sorted.ensures c.args.i.now c.args.a.now c.args.naming.now.to.now c.args.d.now c.presentation-presentation.ensures.instance c.is_instance.ensures c.is_instance-2.ensures
    c.requires.initial c.requires.least c.requires.pushed c.requires.pulled (term_among c.args.naming.now.null_terms.now) c.requires.spelled c.args.k.now c.requires.goes)

pub returns-in-Ok-clause-images : goal.returns-in-Ok-clause-images
returns-in-Ok-clause-images c =
    c.in-Ok.ensures.made
    ∙ ap (each_generator (moved_name c.args.mapping.now c.args.k.now c.args.i.now c.args.naming.now.to.now (term_among c.args.naming.now.null_terms.now))) (c.as_slice.ensures ∙ ap (λ (P : Presentation). P.generators) c.presentation-presentation.ensures.presentation)
    ∙ lemmas.images_are c.args.mapping.now c.is_well_sorted.ensures c.args.i.now c.args.a.now c.args.naming.now.to.now c.args.d.now c.presentation-presentation.ensures.instance c.is_instance.ensures c.is_instance-2.ensures
    c.requires.initial c.requires.least c.requires.pushed c.requires.pulled (term_among c.args.naming.now.null_terms.now) c.requires.spelled c.args.k.now c.requires.goes

pub returns-in-Ok-clause-fits : goal.returns-in-Ok-clause-fits
returns-in-Ok-clause-fits c = ap has_long (sym (returns-in-Ok-clause-images c)) ∙ c.in-Ok.ensures.fits

pub returns-in-Ok-clause-sorted : goal.returns-in-Ok-clause-sorted
returns-in-Ok-clause-sorted c =
    subst (AreSorted c.args.a.now c.args.naming.now.to.now) (sym (returns-in-Ok-clause-images c))
    (lemmas.sorted c.args.mapping.now c.is_well_sorted.ensures c.args.i.now c.args.a.now c.args.naming.now.to.now c.args.d.now c.presentation-presentation.ensures.instance c.is_instance.ensures c.is_instance-2.ensures
    c.requires.initial c.requires.least c.requires.pushed c.requires.pulled (term_among c.args.naming.now.null_terms.now) c.requires.spelled c.args.k.now c.requires.goes)

pub returns-in-Ok-clause-kept : goal.returns-in-Ok-clause-kept
returns-in-Ok-clause-kept c =
    subst (AreKept c.args.a.now c.args.naming.now.to.now) (sym (returns-in-Ok-clause-images c))
    (lemmas.kept c.args.mapping.now c.is_well_sorted.ensures c.args.i.now c.args.a.now c.args.naming.now.to.now c.args.d.now c.presentation-presentation.ensures.instance c.is_instance.ensures c.is_instance-2.ensures
    c.requires.initial c.requires.least c.requires.pushed c.requires.pulled (term_among c.args.naming.now.null_terms.now) c.requires.spelled c.args.k.now c.requires.goes)

pub returns-in-Err-clause-refused : goal.returns-in-Err-clause-refused
returns-in-Err-clause-refused c =
    subst (λ (images : List Image). TellsSize (has_long images) c.in-Err.refusal)
    (ap (each_generator (moved_name c.args.mapping.now c.args.k.now c.args.i.now c.args.naming.now.to.now (term_among c.args.naming.now.null_terms.now))) (c.as_slice.ensures ∙ ap (λ (P : Presentation). P.generators) c.presentation-presentation.ensures.presentation)
    ∙ lemmas.images_are c.args.mapping.now c.is_well_sorted.ensures c.args.i.now c.args.a.now c.args.naming.now.to.now c.args.d.now c.presentation-presentation.ensures.instance c.is_instance.ensures c.is_instance-2.ensures
    c.requires.initial c.requires.least c.requires.pushed c.requires.pulled (term_among c.args.naming.now.null_terms.now) c.requires.spelled c.args.k.now c.requires.goes)
    c.in-Err.ensures.refused

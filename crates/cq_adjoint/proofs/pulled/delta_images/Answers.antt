use Rattle.std.proofs.Common.{List, sym, ap, subst, ◌∙◌, arith}
use Rattle.std.specs.Prelude.{length}
use Rattle.cq_theory.specs.declared.presentation.Presentation.{Presentation}
use Rattle.cq_mapping.specs.Moved.{delta_tables}
use Rattle.cq_instance.specs.declared.transform.Image.{Image}
use Rattle.cq_move.specs.Pulling.{TellsSize}
use Rattle.cq_transform.specs.Composing.{has_long}
use Rattle.cq_transform.specs.Transforming.{AreKept, AreSorted}
use Rattle.cq_adjoint.specs.Moves.{each_generator}
use Rattle.cq_adjoint.specs.Spellable.{AreSpellable, moved_spelling}
use Rattle.cq_adjoint.proofs.GivenModels.{given_itself}
use Rattle.cq_adjoint.proofs.DeltaMap as lemmas
use Rattle.cq_adjoint.proofs.pulled.delta_images.Goals as goal

pub spelled_images-requires-clause-given : goal.spelled_images-requires-clause-given
spelled_images-requires-clause-given c =
    given_itself c.args.b.now c.args.mapping.now.source (delta_tables c.args.mapping.now c.args.j.now.tables) c.requires.second.instance

pub spelled_images-requires-clause-few : goal.spelled_images-requires-clause-few
spelled_images-requires-clause-few c =
    omega (arith, c.presentation-presentation.ensures.instance.presented.count, ap length (c.as_slice.ensures ∙ ap (λ (P : Presentation). P.generators) c.presentation-presentation.ensures.presentation))

pub spelled_images-requires-clause-spellable : goal.spelled_images-requires-clause-spellable
spelled_images-requires-clause-spellable c =
    subst (AreSpellable c.args.mapping.now c.args.h.now c.args.a.now c.args.b.now) (sym (c.as_slice.ensures ∙ ap (λ (P : Presentation). P.generators) c.presentation-presentation.ensures.presentation))
    (lemmas.spellable c.args.mapping.now c.is_well_sorted.ensures c.args.i.now c.args.j.now c.args.a.now c.args.b.now c.is_instance.ensures c.is_instance-2.ensures c.presentation-presentation.ensures.instance
    c.is_instance-3.ensures c.requires.first c.requires.second c.args.h.now c.requires.goes)

pub returns-in-Ok-clause-images : goal.returns-in-Ok-clause-images
returns-in-Ok-clause-images c =
    c.in-Ok.ensures.made
    ∙ ap (each_generator (moved_spelling c.args.mapping.now c.args.h.now c.args.a.now c.args.b.now)) (c.as_slice.ensures ∙ ap (λ (P : Presentation). P.generators) c.presentation-presentation.ensures.presentation)
    ∙ lemmas.images_are c.args.mapping.now c.is_well_sorted.ensures c.args.i.now c.args.j.now c.args.a.now c.args.b.now c.is_instance.ensures c.is_instance-2.ensures c.presentation-presentation.ensures.instance
    c.is_instance-3.ensures c.requires.first c.requires.second c.args.h.now c.requires.goes

pub returns-in-Ok-clause-fits : goal.returns-in-Ok-clause-fits
returns-in-Ok-clause-fits c = ap has_long (sym (returns-in-Ok-clause-images c)) ∙ c.in-Ok.ensures.fits

pub returns-in-Ok-clause-sorted : goal.returns-in-Ok-clause-sorted
returns-in-Ok-clause-sorted c =
    subst (AreSorted c.args.a.now c.args.b.now) (sym (returns-in-Ok-clause-images c))
    (lemmas.sorted c.args.mapping.now c.is_well_sorted.ensures c.args.i.now c.args.j.now c.args.a.now c.args.b.now c.is_instance.ensures c.is_instance-2.ensures c.presentation-presentation.ensures.instance
    c.is_instance-3.ensures c.requires.first c.requires.second c.args.h.now c.requires.goes)

pub returns-in-Ok-clause-kept : goal.returns-in-Ok-clause-kept
returns-in-Ok-clause-kept c =
    subst (AreKept c.args.a.now c.args.b.now) (sym (returns-in-Ok-clause-images c))
    (lemmas.kept c.args.mapping.now c.is_well_sorted.ensures c.args.i.now c.args.j.now c.args.a.now c.args.b.now c.is_instance.ensures c.is_instance-2.ensures c.presentation-presentation.ensures.instance
    c.is_instance-3.ensures c.requires.first c.requires.second c.args.h.now c.requires.goes)

pub returns-in-Err-clause-refused : goal.returns-in-Err-clause-refused
returns-in-Err-clause-refused c =
    subst (λ (images : List Image). TellsSize (has_long images) c.in-Err.refusal)
    (ap (each_generator (moved_spelling c.args.mapping.now c.args.h.now c.args.a.now c.args.b.now)) (c.as_slice.ensures ∙ ap (λ (P : Presentation). P.generators) c.presentation-presentation.ensures.presentation)
    ∙ lemmas.images_are c.args.mapping.now c.is_well_sorted.ensures c.args.i.now c.args.j.now c.args.a.now c.args.b.now c.is_instance.ensures c.is_instance-2.ensures c.presentation-presentation.ensures.instance
    c.is_instance-3.ensures c.requires.first c.requires.second c.args.h.now c.requires.goes)
    c.in-Err.ensures.refused

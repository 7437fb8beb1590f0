use Rattle.std.proofs.Common.{◌∙◌, refl}
use Rattle.cq_theory.specs.declared.refusal.TheoryRefusal.TheVariants as refusals
use Rattle.cq_theory.specs.Parts.{presentation_fault, presented}
use Rattle.cq_theory.specs.declared.parts.PresentationParts.{PresentationParts}
use Rattle.cq_parts.specs.Parts.{instance_parts, instance_places}
use Rattle.cq_program.specs.Posed.{part_breach}
use Rattle.cq_program.specs.Literals.{presentation_given}
use Rattle.cq_parts.proofs.Counts.{instance_fits}
use Rattle.cq_program.proofs.Given.{given_parts, refused_parts}
use Rattle.cq_program.proofs.literals.stating.make_presentation.Goals as goal

pub new-requires : goal.new-requires
new-requires c = instance_fits c.args.literal.now c.in_ok-parts.parts c.in_ok-parts.ensures c.requires

pub returns-in-Ok-clause-given : goal.returns-in-Ok-clause-given
unfolding presentation_given
returns-in-Ok-clause-given c =
    given_parts (λ (p : PresentationParts). presentation_fault c.args.schema.now p.generators p.equations) (λ (p : PresentationParts). presented c.args.schema.now p.generators p.equations)
    (part_breach c.args.place) (instance_places c.args.literal.now) c.in_ok-parts.parts (instance_parts c.args.literal.now) c.in_ok-parts.ensures
    c.in-Ok.presentation c.in-Ok.ensures.accepted c.in-Ok.ensures.made

pub returns-in_ok-places-in-Err-clause-given : goal.returns-in_ok-places-in-Err-clause-given
unfolding presentation_given
returns-in_ok-places-in-Err-clause-given c =
    refused_parts (λ (p : PresentationParts). presentation_fault c.args.schema.now p.generators p.equations) (λ (p : PresentationParts). presented c.args.schema.now p.generators p.equations)
    (part_breach c.args.place) (instance_places c.args.literal.now) c.in_ok-parts.parts (instance_parts c.args.literal.now) c.in_ok-parts.ensures
    refusals.Memory refl c.tell_part.result c.as_slice.result.now c.in-Err.refusal (c.as_slice.ensures.value ∙ c.in_ok-places-in-Err.ensures) c.tell_part.ensures c.in-Err.ensures.refused

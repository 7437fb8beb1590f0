use Rattle.std.proofs.Common.{◌∙◌, refl}
use Rattle.cq_theory.specs.declared.refusal.TheoryRefusal.TheVariants as refusals
use Rattle.cq_theory.specs.TypesideParts.{typeside_fault, typeside_made}
use Rattle.cq_parts.specs.Parts.{typeside_parts, typeside_places}
use Rattle.cq_program.specs.Posed.{part_breach}
use Rattle.cq_program.specs.Typesides.{typeside_given}
use Rattle.cq_parts.proofs.Counts.{typeside_fits}
use Rattle.cq_program.proofs.Given.{given_parts, refused_parts}
use Rattle.cq_program.proofs.typesides.stating.make_typeside.Goals as goal

pub new-requires : goal.new-requires
new-requires c = typeside_fits c.args.literal.now c.in_ok-parts.parts c.in_ok-parts.ensures c.requires

pub returns-in-Ok : goal.returns-in-Ok
unfolding typeside_given
returns-in-Ok c =
    given_parts typeside_fault typeside_made (part_breach c.args.place) (typeside_places c.args.literal.now) c.in_ok-parts.parts (typeside_parts c.args.literal.now) c.in_ok-parts.ensures
    c.in-Ok.typeside c.in-Ok.ensures.accepted c.in-Ok.ensures.made

pub returns-in_ok-places-in-Err : goal.returns-in_ok-places-in-Err
unfolding typeside_given
returns-in_ok-places-in-Err c =
    refused_parts typeside_fault typeside_made (part_breach c.args.place) (typeside_places c.args.literal.now) c.in_ok-parts.parts (typeside_parts c.args.literal.now) c.in_ok-parts.ensures
    refusals.Memory refl c.tell_part.result c.as_slice.result.now c.in-Err.refusal (c.as_slice.ensures.value ∙ c.in_ok-places-in-Err.ensures) c.tell_part.ensures c.in-Err.ensures.refused

use Rattle.std.proofs.Common.{ap, ◌∙◌, refl}
use Rattle.cq_mapping.specs.MappingData.{MappingData}
use Rattle.cq_theory.specs.declared.refusal.ArrowRefusal.TheVariants as refusals
use Rattle.cq_mapping.specs.MappingParts.{mapping_fault, mapping_made}
use Rattle.cq_parts.specs.Parts.{mapping_parts, mapping_places}
use Rattle.cq_program.specs.Posed.{arrow_breach}
use Rattle.cq_program.specs.Mappings.{mapping_given}
use Rattle.cq_parts.proofs.Counts.{mapping_fits}
use Rattle.cq_program.proofs.Given.{given_parts, refused_parts}
use Rattle.cq_program.proofs.mappings.stating.make_mapping.Goals as goal

pub new-requires-clause-parts : goal.new-requires-clause-parts
new-requires-clause-parts c = mapping_fits c.args.literal.now c.in_ok-parts.parts c.in_ok-parts.ensures c.requires.few

pub returns-in-Ok-clause-given : goal.returns-in-Ok-clause-given
unfolding mapping_given
returns-in-Ok-clause-given c =
    given_parts (mapping_fault c.args.source.value c.args.target.value) (mapping_made c.args.source.value c.args.target.value) (arrow_breach c.args.place) (mapping_places c.args.literal.now)
    c.in_ok-parts.parts (mapping_parts c.args.literal.now) c.in_ok-parts.ensures c.in-Ok.mapping c.in-Ok.ensures.accepted c.in-Ok.ensures.made

pub returns-in_ok-places-in-Err-clause-given : goal.returns-in_ok-places-in-Err-clause-given
unfolding mapping_given
returns-in_ok-places-in-Err-clause-given c =
    refused_parts (mapping_fault c.args.source.value c.args.target.value) (mapping_made c.args.source.value c.args.target.value) (arrow_breach c.args.place) (mapping_places c.args.literal.now)
    c.in_ok-parts.parts (mapping_parts c.args.literal.now) c.in_ok-parts.ensures
    refusals.Memory refl c.tell_arrow.result c.as_slice.result.now c.in-Err.refusal (c.as_slice.ensures.value ∙ c.in_ok-places-in-Err.ensures) c.tell_arrow.ensures c.in-Err.ensures.refused

pub returns-in-Ok-clause-over : goal.returns-in-Ok-clause-over
returns-in-Ok-clause-over c = (ap (λ (F : MappingData). F.source) c.in-Ok.ensures.made, ap (λ (F : MappingData). F.target) c.in-Ok.ensures.made)

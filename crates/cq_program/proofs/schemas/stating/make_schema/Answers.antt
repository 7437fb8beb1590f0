use Rattle.std.proofs.Common.{◌∙◌, refl, ap}
use Rattle.cq_theory.specs.declared.refusal.TheoryRefusal.TheVariants as refusals
use Rattle.cq_theory.specs.SchemaData.{SchemaData}
use Rattle.cq_theory.specs.SchemaParts.{schema_fault, schema_made}
use Rattle.cq_parts.specs.Parts.{schema_parts, schema_places}
use Rattle.cq_program.specs.Posed.{part_breach}
use Rattle.cq_program.specs.Schemas.{schema_given}
use Rattle.cq_parts.proofs.Counts.{schema_fits}
use Rattle.cq_program.proofs.Given.{given_parts, refused_parts}
use Rattle.cq_program.proofs.schemas.stating.make_schema.Goals as goal

pub new-requires : goal.new-requires
new-requires c = schema_fits c.args.literal.now c.in_ok-parts.parts c.in_ok-parts.ensures c.requires

pub returns-in-Ok-clause-given : goal.returns-in-Ok-clause-given
unfolding schema_given
returns-in-Ok-clause-given c =
    given_parts (schema_fault c.args.typeside.value) (schema_made c.args.typeside.value) (part_breach c.args.place) (schema_places c.args.literal.now) c.in_ok-parts.parts (schema_parts c.args.literal.now) c.in_ok-parts.ensures
    c.in-Ok.schema c.in-Ok.ensures.accepted c.in-Ok.ensures.made

pub returns-in_ok-places-in-Err-clause-given : goal.returns-in_ok-places-in-Err-clause-given
unfolding schema_given
returns-in_ok-places-in-Err-clause-given c =
    refused_parts (schema_fault c.args.typeside.value) (schema_made c.args.typeside.value) (part_breach c.args.place) (schema_places c.args.literal.now) c.in_ok-parts.parts (schema_parts c.args.literal.now) c.in_ok-parts.ensures
    refusals.Memory refl c.tell_part.result c.as_slice.result.now c.in-Err.refusal (c.as_slice.ensures.value ∙ c.in_ok-places-in-Err.ensures) c.tell_part.ensures c.in-Err.ensures.refused

pub returns-in-Ok-clause-over : goal.returns-in-Ok-clause-over
returns-in-Ok-clause-over c = ap (λ (S : SchemaData). S.typeside) c.in-Ok.ensures.made

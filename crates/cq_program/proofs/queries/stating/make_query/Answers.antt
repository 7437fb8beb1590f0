use Rattle.std.proofs.Common.{ap, ◌∙◌, refl}
use Rattle.cq_query.specs.QueryData.{QueryData}
use Rattle.cq_theory.specs.declared.refusal.ArrowRefusal.TheVariants as refusals
use Rattle.cq_query.specs.QueryParts.{query_fault, query_made}
use Rattle.cq_parts.specs.Parts.{query_parts, query_places}
use Rattle.cq_program.specs.Posed.{arrow_breach}
use Rattle.cq_program.specs.Queries.{query_given}
use Rattle.cq_parts.proofs.QueryCounts.{query_fits, variables_within, clauses_within}
use Rattle.cq_program.proofs.Given.{given_parts, refused_parts}
use Rattle.cq_program.proofs.queries.stating.make_query.Goals as goal

pub new-requires-clause-parts : goal.new-requires-clause-parts
new-requires-clause-parts c = query_fits c.args.literal.now c.in_ok-parts.parts c.in_ok-parts.ensures c.requires.few

pub new-requires-clause-vars : goal.new-requires-clause-vars
new-requires-clause-vars c = variables_within c.args.literal.now c.in_ok-parts.parts c.in_ok-parts.ensures

pub new-requires-clause-clauses : goal.new-requires-clause-clauses
new-requires-clause-clauses c = clauses_within c.args.literal.now c.in_ok-parts.parts c.in_ok-parts.ensures

pub returns-in-Ok-clause-given : goal.returns-in-Ok-clause-given
unfolding query_given
returns-in-Ok-clause-given c =
    given_parts (query_fault c.args.source.value c.args.target.value) (query_made c.args.source.value c.args.target.value) (arrow_breach c.args.place) (query_places c.args.literal.now)
    c.in_ok-parts.parts (query_parts c.args.literal.now) c.in_ok-parts.ensures c.in-Ok.query c.in-Ok.ensures.accepted c.in-Ok.ensures.made

pub returns-in_ok-places-in-Err-clause-given : goal.returns-in_ok-places-in-Err-clause-given
unfolding query_given
returns-in_ok-places-in-Err-clause-given c =
    refused_parts (query_fault c.args.source.value c.args.target.value) (query_made c.args.source.value c.args.target.value) (arrow_breach c.args.place) (query_places c.args.literal.now)
    c.in_ok-parts.parts (query_parts c.args.literal.now) c.in_ok-parts.ensures
    refusals.Memory refl c.tell_arrow.result c.as_slice.result.now c.in-Err.refusal (c.as_slice.ensures.value ∙ c.in_ok-places-in-Err.ensures) c.tell_arrow.ensures c.in-Err.ensures.refused

pub returns-in-Ok-clause-over : goal.returns-in-Ok-clause-over
returns-in-Ok-clause-over c = (ap (λ (Q : QueryData). Q.source) c.in-Ok.ensures.made, ap (λ (Q : QueryData). Q.target) c.in-Ok.ensures.made)

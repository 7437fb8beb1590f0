use Rattle.std.proofs.lemmas.Result.{err_from_is_err_and}
use Rattle.cq_syntax.specs.declared.part.Spot.{Spot}
use Rattle.cq_environment.specs.Environment.{environment_of}
use Rattle.cq_program.specs.Views.{useds_meant}
use Rattle.cq_environment.specs.Meanings.{schema_used}
use Rattle.cq_program.proofs.Uses.{used_given_at, used_refused_at}
use Rattle.cq_program.proofs.colimits.stating.schemas_of.Goals as goal

pub returns-in_err-push_schema : goal.returns-in_err-push_schema
returns-in_err-push_schema c =
    let p = err_from_is_err_and c.from_residual.result c.from_residual.ensures.1 in
    rw (p.1, p.2)
    (used_refused_at (λ (s : Spot). s) (schema_used (environment_of c.args.env.now.names.entries)) c.args.used.now c.loop-spot.spot-index c.spot-item.result
    (useds_meant c.loop-spot.parts.items) c.in_err-push_schema.field-0.0 c.loop-spot-test.true c.spot-item.is c.loop-spot.invariant c.in_err-push_schema.ensures.refused)

pub loop-spot-preserved : goal.loop-spot-preserved
loop-spot-preserved c =
    let given = c.in_ok-push_schema.ensures.given in
    used_given_at (λ (s : Spot). s) (schema_used (environment_of c.args.env.now.names.entries)) c.args.used.now c.loop-spot.spot-index c.spot-item.result
    (useds_meant c.loop-spot.parts.items) (useds_meant c.push_schema.new.parts.items) given.0 c.loop-spot-test.true c.spot-item.is c.loop-spot.invariant given.1 given.2

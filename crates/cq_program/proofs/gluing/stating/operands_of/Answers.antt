use Rattle.std.proofs.Common.{◌<◌, length, arith}
use Rattle.std.proofs.lemmas.Result.{err_from_is_err_and}
use Rattle.cq_environment.specs.Environment.{environment_of}
use Rattle.cq_program.specs.Views.{operands_meant}
use Rattle.cq_program.proofs.Operands.{given_at, refused_at}
use Rattle.cq_program.proofs.gluing.stating.operands_of.Goals as goal

pub returns-in_err-push_operand : goal.returns-in_err-push_operand
returns-in_err-push_operand c =
    let p = err_from_is_err_and c.from_residual.result c.from_residual.ensures.1 in
    rw (p.1, p.2)
    (refused_at (environment_of c.args.env.now.names.entries) c.args.used.now c.loop-spot.spot-index c.spot-item.result (operands_meant c.loop-spot.operands.items) c.in_err-push_operand.field-0.0
    c.loop-spot-test.true c.spot-item.is c.loop-spot.invariant c.in_err-push_operand.ensures.refused)

pub loop-spot-preserved : goal.loop-spot-preserved
loop-spot-preserved c =
    let given = c.in_ok-push_operand.ensures.given in
    given_at (environment_of c.args.env.now.names.entries) c.args.used.now c.loop-spot.spot-index c.spot-item.result (operands_meant c.loop-spot.operands.items) (operands_meant c.push_operand.new.operands.items)
    given.0 c.loop-spot-test.true c.spot-item.is c.loop-spot.invariant given.1 given.2

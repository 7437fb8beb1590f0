use Rattle.cq_run.proofs.Judging.{by_stop}
use Rattle.cq_run.proofs.Stopping.{stop_of_halt, stop_of_meaning}
use Rattle.cq_run.specs.declared.answer.Answer.TheVariants.{Accepted}
use Rattle.cq_run.proofs.judge.judge_program.Goals as goal

pub returns-in-Ok-clause-judges : goal.returns-in-Ok-clause-judges
returns-in-Ok-clause-judges g c = (c.in-Ok.ensures.means, c.in-Ok.ensures.initial)

pub returns-in-Ok-clause-stops : goal.returns-in-Ok-clause-stops
returns-in-Ok-clause-stops g c = stop_of_meaning c.args.depth _ c.args.program.now _ (Accepted c.in-Ok.instances) c.in-Ok.ensures.means

pub returns-in-Err-Stopped-clause-judges : goal.returns-in-Err-Stopped-clause-judges
returns-in-Err-Stopped-clause-judges g c =
    by_stop c.args.depth _ _ c.args.program.now _ c.in-Err-Stopped.stop c.stopped.result.answer c.in-Err-Stopped.field-0-is c.in-Err-Stopped.ensures.refused
    c.stopped.ensures.says

pub returns-in-Err-Stopped-clause-stops : goal.returns-in-Err-Stopped-clause-stops
returns-in-Err-Stopped-clause-stops g c =
    stop_of_halt c.args.depth _ _ c.args.program.now _ c.in-Err-Stopped.stop c.stopped.result.answer c.stopped.result.stop c.in-Err-Stopped.field-0-is
    c.in-Err-Stopped.ensures.refused c.stopped.ensures.stop

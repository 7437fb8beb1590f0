use Rattle.cq_run.proofs.Judging.{by_parser, by_tree}
use Rattle.cq_run.proofs.Stopping.{stop_by_parser, stop_by_tree}
use Rattle.cq_run.proofs.judge.judge_tokens.Goals as goal

pub returns-in-Ok-clause-judges : goal.returns-in-Ok-clause-judges
returns-in-Ok-clause-judges g c =
    by_tree c.args.depth _ _ c.args.tokens.items c.in-Ok.tree c.judge_program.result.answer c.in-Ok.ensures.ok (λ other spelled fits. c.in-Ok.ensures.only other spelled fits)
    c.judge_program.ensures.judges

pub returns-in-Ok-clause-stops : goal.returns-in-Ok-clause-stops
returns-in-Ok-clause-stops g c =
    stop_by_tree c.args.depth _ c.args.tokens.items c.in-Ok.tree c.judge_program.result.answer c.judge_program.result.stop c.in-Ok.ensures.ok
    (λ other spelled fits. c.in-Ok.ensures.only other spelled fits) c.judge_program.ensures.stops

pub returns-in-Err-clause-judges : goal.returns-in-Err-clause-judges
returns-in-Err-clause-judges g c =
    by_parser c.args.depth _ _ c.args.tokens.items c.in-Err.refusal c.parse_refusal.result c.in-Err.ensures.refused (λ other spelled fits. c.in-Err.ensures.only other spelled fits) c.parse_refusal.ensures

pub returns-in-Err-clause-stops : goal.returns-in-Err-clause-stops
returns-in-Err-clause-stops g c =
    stop_by_parser c.args.depth _ c.args.tokens.items c.in-Err.refusal c.parse_refusal.result (λ other spelled fits. c.in-Err.ensures.only other spelled fits) c.parse_refusal.ensures

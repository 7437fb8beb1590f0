use Rattle.cq_run.proofs.Judging.{by_lexer, by_tokens}
use Rattle.cq_run.proofs.Stopping.{stop_by_lexer, stop_by_tokens}
use Rattle.cq_run.proofs.judge.judge_with_stop.Goals as goal

pub returns-in-Ok-clause-judges : goal.returns-in-Ok-clause-judges
returns-in-Ok-clause-judges g c =
    by_tokens c.args.depth _ _ c.args.text.now c.in-Ok.tokens.items c.judge_tokens.result.answer c.in-Ok.ensures.ok
    (λ others lexed. c.in-Ok.ensures.tokens others lexed) c.judge_tokens.ensures.judges

pub returns-in-Ok-clause-stops : goal.returns-in-Ok-clause-stops
returns-in-Ok-clause-stops g c =
    stop_by_tokens c.args.depth _ c.args.text.now c.in-Ok.tokens.items c.judge_tokens.result.answer c.judge_tokens.result.stop c.in-Ok.ensures.ok
    (λ others lexed. c.in-Ok.ensures.tokens others lexed) c.judge_tokens.ensures.stops

pub returns-in-Err-clause-judges : goal.returns-in-Err-clause-judges
returns-in-Err-clause-judges g c =
    by_lexer c.args.depth _ _ c.args.text.now c.in-Err.refusal c.lex_refusal.result c.in-Err.ensures.refused (λ others lexed. c.in-Err.ensures.tokens others lexed) c.lex_refusal.ensures

pub returns-in-Err-clause-stops : goal.returns-in-Err-clause-stops
returns-in-Err-clause-stops g c =
    stop_by_lexer c.args.depth _ c.args.text.now c.in-Err.refusal c.lex_refusal.result (λ others lexed. c.in-Err.ensures.tokens others lexed) c.lex_refusal.ensures

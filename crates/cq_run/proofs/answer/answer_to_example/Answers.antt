use Rattle.std.proofs.Common.{arith}
use Rattle.cq_words.specs.Ask.{example}
use Rattle.cq_run.proofs.Answered.{answered, untouched}
use Rattle.cq_run.proofs.answer.answer_to_example.Goals as goal

pub judge-requires-clause-length : goal.judge-requires-clause-length
judge-requires-clause-length g c = omega (arith, c.in-Ok.ensures.short, c.as_slice.ensures.len, c.in-Ok.text.ok.0)

pub returns-in-Ok-clause-answers : goal.returns-in-Ok-clause-answers
returns-in-Ok-clause-answers g c =
    answered (example c.args.size) _ _ _ c.in-Ok.text.items c.as_slice.result.now c.judge.result c.in-Ok.ensures.text (untouched _)
    c.as_slice.ensures.value c.judge.ensures.judges

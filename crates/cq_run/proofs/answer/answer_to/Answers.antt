use Rattle.std.proofs.Common.{refl}
use Rattle.cq_words.specs.Ask.{run, explain}
use Rattle.cq_run.proofs.answer.answer_to.Goals as goal

pub returns-in-Run-clause-answers : goal.returns-in-Run-clause-answers
returns-in-Run-clause-answers g c =
    rw c.in-Run.is (c.answer_alone.ensures.answers (run c.in-Run.file.now c.in-Run.depth c.in-Run.only) refl refl)

pub returns-in-Explain-clause-answers : goal.returns-in-Explain-clause-answers
returns-in-Explain-clause-answers g c =
    rw c.in-Explain.is
    (c.answer_alone-in-Explain.ensures.answers
    (explain c.in-Explain.file.now c.in-Explain.instance.now c.in-Explain.left.now c.in-Explain.right.now c.in-Explain.depth) refl refl)

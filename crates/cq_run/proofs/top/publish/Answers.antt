use Rattle.std.proofs.Common.{refl}
use Rattle.cq_run.proofs.top.publish.Goals as goal

pub returns-in-Run : goal.returns-in-Run
returns-in-Run g c = rw c.in-Run.is c.export_all.ensures

pub returns-in-Example : goal.returns-in-Example
returns-in-Example g c = rw c.in-Example.is c.export_all-in-Example.ensures

pub returns-in-Explain : goal.returns-in-Explain
returns-in-Explain g c = rw c.in-Explain.is (rw c.as_slice.ensures.value at c.answer_question.ensures, refl)

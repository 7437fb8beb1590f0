use Rattle.cq_run.proofs.answer.answer_alone.Goals as goal

pub returns-clause-files : goal.returns-clause-files
returns-clause-files g c = c.answer_to_file-answer.ensures.keeps.files

pub returns-clause-answers : goal.returns-clause-answers
returns-clause-answers g c = c.answer_to_file-answer.ensures.answers

use Rattle.cq_eval.proofs.answering.lone_answers.Goals as goal

pub found_answers-requires-clause-kept : goal.found_answers-requires-clause-kept
found_answers-requires-clause-kept c = c.new-kept.ensures c.args.instance.now.tables

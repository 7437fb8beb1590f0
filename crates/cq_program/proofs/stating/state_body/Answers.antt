use Rattle.cq_program.proofs.stating.state_body.Goals as goal

pub returns-in-Some-clause-grounded : goal.returns-in-Some-clause-grounded
returns-in-Some-clause-grounded c = c.state_folder.ensures.grounded c.args.name.now

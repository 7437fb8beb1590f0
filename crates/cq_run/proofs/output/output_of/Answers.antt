use Rattle.cq_run.proofs.output.output_of.Goals as goal

pub returns : goal.returns
returns c = record { shown = c.in_ok-shown.ensures; files = c.in_ok-files.ensures }

use Rattle.cq_eval.proofs.plan.+push_variables.Given as goal

abbrev pub decreases-push_variables : goal.decreases-push_variables
decreases-push_variables l = goal.size-push_variables l

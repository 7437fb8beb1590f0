use Rattle.cq_rows.proofs.ahead.row_weight.Given as goal

abbrev pub invariant-loop-key : goal.invariant-loop-key
invariant-loop-key l = Unit {0}

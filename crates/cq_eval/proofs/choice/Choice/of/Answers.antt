use Rattle.std.proofs.Common.{take, ap, ◌∙◌}
use Rattle.std.proofs.lemmas.List.{take_all}
use Rattle.cq_eval.proofs.Chosen.{chosen, chosen_back, rows_stand}
use Rattle.cq_eval.proofs.choice.Choice.of.Goals as goal

pub invariant_of-result : goal.invariant_of-result
invariant_of-result c = rows_stand c.loop-row.standings.items (take c.loop-row.row-index c.args.rows.now) c.loop-row.invariant

pub returns : goal.returns
returns c = ap chosen c.loop-row.invariant ∙ chosen_back (take c.loop-row.row-index c.args.rows.now) ∙ take_all c.loop-row.row-index c.args.rows.now c.loop-row-test.false

use Rattle.std.proofs.Common.{◌≡◌, map, take}
use Rattle.cq_instance.specs.declared.standing.Standing.TheVariants.{Row}
use Rattle.cq_eval.proofs.choice.Choice.of.Given as goal

abbrev pub invariant-loop-row : goal.invariant-loop-row
invariant-loop-row l = l.standings.items ≡ map Row (take l.row-index l.rows)

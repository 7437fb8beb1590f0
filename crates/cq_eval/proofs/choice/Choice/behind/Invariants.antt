use Rattle.std.proofs.Common.{◌≡◌, map, take}
use Rattle.cq_theory.specs.Tables.{row_in}
use Rattle.cq_instance.specs.Standing.{meaning}
use Rattle.cq_eval.proofs.choice.Choice.behind.Given as goal

abbrev pub invariant-loop-standing : goal.invariant-loop-standing
invariant-loop-standing l = l.rows.items ≡ map (λ s. row_in (meaning s)) (take l.standing-index l.standing-items)

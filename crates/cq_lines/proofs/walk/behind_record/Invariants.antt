use Rattle.std.proofs.Common.{drop}
use Rattle.cq_lines.specs.Stands.{state_of}
use Rattle.cq_lines.specs.Walks.{Counts}
use Rattle.cq_lines.proofs.Walking.{Goes}
use Rattle.cq_lines.proofs.walk.behind_record.Given as goal

abbrev pub invariant-loop-at : goal.invariant-loop-at
invariant-loop-at l = Goes (state_of l.walk.stand) (drop l.walk.at l.text) (state_of l.stand) (drop l.at l.text) × Counts l.text l.at l.line

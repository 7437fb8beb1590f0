use Rattle.cq_lines.specs.Walks.{IsWalk}
use Rattle.cq_cell_texts.proofs.second.push_certain.Given as goal

abbrev pub invariant-loop-fault : goal.invariant-loop-fault
invariant-loop-fault l = IsWalk l.text l.walk

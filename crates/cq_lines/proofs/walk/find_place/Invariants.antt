use Rattle.std.proofs.Common.{drop, ◌≡◌}
use Rattle.cq_lines.specs.Lines.{skip_ends}
use Rattle.cq_lines.specs.Walks.{Counts}
use Rattle.cq_lines.proofs.walk.find_place.Given as goal

abbrev pub invariant-loop-at : goal.invariant-loop-at
invariant-loop-at l = (skip_ends (drop l.fn.walk.at l.text) ≡ skip_ends (drop l.at l.text)) × Counts l.text l.at l.line

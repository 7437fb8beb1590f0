use Rattle.std.proofs.Common.{ℕ, ◌≡◌, ◌+◌}
use Rattle.std.specs.Prelude.{All}
use Rattle.cq_lines.specs.Lines.{line_of}
use Rattle.cq_lines.specs.Walks.{IsWalk}
use Rattle.cq_cell_texts.proofs.numbers.earlier_lines.Given as goal

abbrev pub invariant-loop-number : goal.invariant-loop-number
invariant-loop-number l = IsWalk l.text l.walk × All (λ (p : ℕ × ℕ). p.1 ≡ line_of l.text (p.0 + 1)) l.lines.items

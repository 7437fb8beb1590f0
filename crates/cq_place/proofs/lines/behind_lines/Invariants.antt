use Rattle.std.proofs.Common.{◌≡◌, ◌-◌}
use Rattle.cq_place.specs.Lines.{behind_lines}
use Rattle.cq_place.proofs.lines.behind_lines.Given as goal

-- the lines that are left, of what is left, are all lines of the text
abbrev pub invariant-loop-line : goal.invariant-loop-line
invariant-loop-line l = behind_lines (l.count - l._line) l.rest ≡ behind_lines l.count l.text

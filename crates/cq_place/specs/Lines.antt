-- The lines of a text, and what stands on one before and behind a column.
use Rattle.std.specs.Prelude.{◌==◌, ◌-◌, ℕ, zero, suc, Bool, List, take, drop}
use Rattle.std.specs.List.{after_first, before_first}

abbrev pub is_line_end : ℕ → Bool
is_line_end byte = byte == 10

-- what stands behind the first so many ends of lines
abbrev pub behind_lines : ℕ → List ℕ → List ℕ
behind_lines zero text = text
behind_lines (suc count) text = behind_lines count (after_first is_line_end text)

-- the line of a number, counted from 1, without its end
abbrev pub line_of : List ℕ → ℕ → List ℕ
line_of text number = before_first is_line_end (behind_lines (number - 1) text)

-- what stands on a line before a column, counted from 1, and from it on
abbrev pub before_column : List ℕ → ℕ → List ℕ
before_column line column = take (column - 1) line

abbrev pub from_column : List ℕ → ℕ → List ℕ
from_column line column = drop (column - 1) line

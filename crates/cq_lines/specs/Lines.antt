-- The lines of a text, and those in which its records begin.
use Rattle.std.specs.Prelude.{ℕ, zero, suc, Bool, true, false, not, List, [], ◌∷◌, ◌+◌, ◌-◌, ◌==◌, ◌&&◌, ◌||◌, Option, Some, None}
use Rattle.std.specs.Prelude.{if◌then◌else◌}
use Rattle.csv.specs.Machine.{Read, next_record}
use Rattle.csv.specs.Reading.{default_config, strip_bom}
use Rattle.csv.specs.declared.parser.State.{State}
use Rattle.csv.specs.declared.parser.State.TheVariants as st

abbrev pub begins_with_feed : List ℕ → Bool
begins_with_feed [] = false
begins_with_feed (c ∷ rest) = c == 10

-- a line ends with a line feed, or with a carriage return that no line feed follows
abbrev pub ends_line : ℕ → List ℕ → Bool
ends_line c rest = (c == 10) || ((c == 13) && not (begins_with_feed rest))

abbrev pub one_if : Bool → ℕ
one_if true = 1
one_if false = 0

-- how many lines end in a text
abbrev pub line_ends : List ℕ → ℕ
line_ends [] = 0
line_ends (c ∷ rest) = one_if (ends_line c rest) + line_ends rest

-- the state of csv's machine and the bytes behind a record that it read; behind the last one there are none
abbrev pub behind_read : Option Read → State × List ℕ
behind_read None = (st.StartRecord, [])
behind_read (Some p) = (p.1, p.2)

abbrev pub behind_one : State × List ℕ → State × List ℕ
behind_one at = behind_read (next_record default_config at.0 [] [] at.1)

abbrev pub behind_from : State × List ℕ → ℕ → State × List ℕ
behind_from start zero = start
behind_from start (suc n) = behind_one (behind_from start n)

-- the same behind so many records of a text, the first one included
abbrev pub behind : List ℕ → ℕ → State × List ℕ
behind text n = behind_from (st.StartRecord, strip_bom text) n

-- without the line ends at its head
abbrev pub skip_ends : List ℕ → List ℕ
skip_ends [] = []
skip_ends (c ∷ rest) = if (c == 10) || (c == 13) then skip_ends rest else c ∷ rest

-- the bytes of a text from a record on, where the first record has the number 0
abbrev pub from_record : List ℕ → ℕ → List ℕ
from_record text n = skip_ends (behind text n).1

-- the line in which a record begins: one more than lines end before it
abbrev pub line_of : List ℕ → ℕ → ℕ
line_of text n = line_ends text + 1 - line_ends (from_record text n)

-- Where the program of a text stops to meet its rules, beside the answer to it.
use Rattle.std.specs.Prelude.{ℕ, Option, Some, None}
use Rattle.cq_program.specs.Stop.{MeetRules, StopsAt}
use Rattle.cq_program.specs.declared.stops.Stop.{Stop}
use Rattle.cq_run.specs.declared.answer.Answer.{Answer}
use Rattle.cq_run.specs.declared.answer.Answer.TheVariants as answer
use Rattle.cq_program.specs.Folders.{Told}
use Rattle.cq_syntax.specs.declared.program.Program.{Program}

-- each program of this kind meets its rules, unless memory was wanting
abbrev pub AllMeet : (Program → Type 0) → Told → Answer → Type 0
AllMeet IsTree told answer.Memory = Unit {0}
AllMeet IsTree told _ = (tree : Program) → IsTree tree → MeetRules told tree

-- A stop is that of a program of this kind; without one each of them meets its rules. A text is that of one program at most.
abbrev pub HasStop : (Program → Type 0) → ℕ → Told → Answer → Option Stop → Type 0
HasStop IsTree depth told answer (Some stop) = (tree : Program) × IsTree tree × StopsAt depth told tree stop
HasStop IsTree depth told answer None = AllMeet IsTree told answer

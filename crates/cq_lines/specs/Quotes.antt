-- Quotes that stay open.
use Rattle.std.specs.Prelude.{ℕ, Bool, true, false, List, [], ◌∷◌, if◌then◌else◌}
use Rattle.csv.specs.Machine.{is_end, step}
use Rattle.csv.specs.Reading.{default_config}
use Rattle.csv.specs.declared.parser.State.{State}
use Rattle.csv.specs.declared.parser.State.TheVariants as st

abbrev pub is_quoted : State → Bool
is_quoted st.StartRecord = false
is_quoted st.StartField = false
is_quoted st.InField = false
is_quoted st.InQuoted = true
is_quoted st.AfterQuote = false
is_quoted st.InEscape = false
is_quoted st.InComment = false
is_quoted st.AfterCr = false

-- csv's machine, from a state on, comes to the end of the text in quotes, and ended no record before
abbrev pub is_open : State → List ℕ → Bool
is_open s [] = is_quoted s
is_open s (c ∷ rest) = if is_end (step default_config s c).1 then false else is_open (step default_config s c).0 rest

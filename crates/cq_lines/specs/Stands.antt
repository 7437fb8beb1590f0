-- The states of csv's machine that a walk knows.
use Rattle.std.specs.Prelude.{Bool, ◌≡◌}
use Rattle.csv.specs.Machine.{is_end}
use Rattle.csv.specs.declared.parser.Action.{Action}
use Rattle.csv.specs.declared.parser.State.{State}
use Rattle.csv.specs.declared.parser.State.TheVariants as st
use Rattle.cq_lines.specs.declared.stand.Stand.{Stand}
use Rattle.cq_lines.specs.declared.stand.Stand.TheVariants.{Record, Field, Bare, Quoted, Closed, Returned}

abbrev pub state_of : Stand → State
state_of Record = st.StartRecord
state_of Field = st.StartField
state_of Bare = st.InField
state_of Quoted = st.InQuoted
state_of Closed = st.AfterQuote
state_of Returned = st.AfterCr

-- the machine's step leads to this state, and ends a record or doesn't
abbrev pub Moves : Stand → Bool → State × Action → Type 0
Moves stand ends to = (state_of stand ≡ to.0) × (ends ≡ is_end to.1)

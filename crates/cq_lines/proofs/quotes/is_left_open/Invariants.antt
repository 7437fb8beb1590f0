use Rattle.std.proofs.Common.{◌≡◌, drop}
use Rattle.csv.specs.declared.parser.State.TheVariants as st
use Rattle.cq_lines.specs.Quotes.{is_open}
use Rattle.cq_lines.specs.Stands.{state_of}
use Rattle.cq_lines.proofs.quotes.is_left_open.Given as goal

abbrev pub invariant-loop-byte : goal.invariant-loop-byte
invariant-loop-byte l = is_open st.StartRecord l.text ≡ is_open (state_of l.stand) (drop l.byte-index l.text)

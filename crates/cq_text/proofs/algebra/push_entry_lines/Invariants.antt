use Rattle.std.proofs.Common.{◌≡◌, ◌++◌, take}
use Rattle.std.specs.List.{flat_map}
use Rattle.cq_text.specs.Transcript.{entry_line}
use Rattle.cq_text.proofs.algebra.push_entry_lines.Given as goal

abbrev pub invariant-loop-entry : goal.invariant-loop-entry
invariant-loop-entry l =
    l.text.items ≡ l.initial.text.items ++ flat_map (entry_line l.typeside) (take l.entry-index l.entries)

use Rattle.std.proofs.Common.{◌≡◌, ◌++◌, take}
use Rattle.std.specs.List.{flat_map}
use Rattle.cq_text.specs.Spelling.{entry_equation_line}
use Rattle.cq_text.proofs.equations.push_entry_equations.Given as goal

abbrev pub invariant-loop-entry : goal.invariant-loop-entry
invariant-loop-entry l = l.text.items ≡ l.initial.text.items ++ flat_map (entry_equation_line l.typeside l.first_null) (take l.entry-index l.entries)

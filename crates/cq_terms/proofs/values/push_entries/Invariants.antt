use Rattle.std.proofs.Common.{◌≡◌, ◌++◌, map, take}
use Rattle.cq_terms.specs.ValueTerms.{entry_equation}
use Rattle.cq_terms.proofs.values.push_entries.Given as goal

abbrev pub invariant-loop-entry : goal.invariant-loop-entry
invariant-loop-entry l = l.made.items ≡ l.initial.made.items ++ map (entry_equation l.first l.count) (take l.entry-index l.entries)

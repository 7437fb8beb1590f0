use Rattle.std.proofs.Common.{◌≡◌, take, map}
use Rattle.cq_instance.specs.EntryLists.{entry_number}
use Rattle.cq_instance.proofs.entries.entry_numbers.Given as goal

abbrev pub invariant-loop-entry : goal.invariant-loop-entry
invariant-loop-entry l = l.made.items ≡ map (entry_number l.hashing l.count) (take l.entry-index l.entries)

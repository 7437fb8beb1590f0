use Rattle.std.proofs.Common.{◌≡◌, ◌++◌, length, map}
use Rattle.std.specs.List.{flat_map}
use Rattle.cq_program.specs.Named.{listed_as, listings_in}
use Rattle.cq_program.proofs.declarations.take_instances.Given as goal

-- the instances among the entries so far, and those of the entries that are left
abbrev pub invariant-loop-name : goal.invariant-loop-name
invariant-loop-name l = map listed_as l.named.items ++ flat_map listings_in l.name-iterator ≡ flat_map listings_in l.fn.names.entries

abbrev pub decreases-loop-name : goal.decreases-loop-name
decreases-loop-name l = length l.name-iterator

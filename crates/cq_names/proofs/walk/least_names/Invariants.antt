use Rattle.std.proofs.Common.{◌-◌, length}
use Rattle.cq_tables.specs.Content.{made_of}
use Rattle.cq_names.specs.Walking.{IsWalked}
use Rattle.cq_names.proofs.walk.least_names.Given as goal

abbrev pub invariant-rows : goal.invariant-rows
invariant-rows l = IsWalked l.schema l.presentation l.tables l.entries l.walk (length l.presentation.generators) l.next 0

abbrev pub decreases-rows : goal.decreases-rows
decreases-rows l = made_of l.tables - l.next

use Rattle.cq_flat.specs.Places.{values_in}
use Rattle.cq_flat.proofs.Listing.{IsListing}
use Rattle.cq_flat.proofs.entries.entries_of.Given as goal

abbrev pub invariant-loop-node : goal.invariant-loop-node
invariant-loop-node l = IsListing l.nodes l.classes (values_in l.values) l.node l.table l.entries.items

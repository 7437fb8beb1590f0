use Rattle.std.proofs.Common.{ap, arith, length}
use Rattle.cq_cells.proofs.Listing.{lists_full}
use Rattle.cq_cells.proofs.faults.Faults.add.Goals as goal

pub returns-then-len-ge-MOST_FAULTS : goal.returns-then-len-ge-MOST_FAULTS
returns-then-len-ge-MOST_FAULTS c = lists_full _ _ (let size = ap length c.self.view_is in omega (arith, size))

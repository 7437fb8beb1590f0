use Rattle.std.proofs.lemmas.Result.{on_ok_weaker}
use Rattle.cq_cells.proofs.Listing.{lists_some}
use Rattle.cq_cells.proofs.rows.add_to_file.Goals as goal

pub returns-clause-some : goal.returns-clause-some
returns-clause-some c = on_ok_weaker c.add.result (lists_some _ _ _) c.add.ensures

use Rattle.cq_cells.proofs.Passing.{no_more_full}
use Rattle.cq_cells.proofs.cells.Pass.is_done.Goals as goal

pub returns : goal.returns
returns c = λ over done. no_more_full over c.args.self.now (c.is_full.ensures.0 done)

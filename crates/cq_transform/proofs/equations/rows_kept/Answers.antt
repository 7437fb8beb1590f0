use Rattle.std.proofs.Common.{map}
use Rattle.cq_instance.specs.Standing.{meaning}
use Rattle.cq_transform.proofs.KeptSides.{kept_rows}
use Rattle.cq_transform.proofs.equations.rows_kept.Goals as goal

pub returns : goal.returns
returns c =
    kept_rows c.args.target.now.tables (map meaning c.args.standings.now) c.args.left.now c.args.right.now c.row_over-first.result c.row_over-second.result
    c.row_over-first.ensures.row c.row_over-second.ensures.row

use Rattle.std.proofs.Common.{◌≡◌, drop}
use Rattle.cq_theory.specs.Tables.{row_from}
use Rattle.cq_transform.proofs.rows.row_from.Given as goal

abbrev pub invariant-loop-key : goal.invariant-loop-key
invariant-loop-key l = row_from l.target.tables l.reached (drop l.key-index l.path) ≡ row_from l.target.tables l.row l.path

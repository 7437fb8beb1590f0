use Rattle.std.proofs.Common.{◌≡◌}
use Rattle.cq_conflict.proofs.rows.find_rows.Given as goal

abbrev pub invariant-loop-entity : goal.invariant-loop-entity
invariant-loop-entity g l = (g.F.Folder.state l.folder).files ≡ (g.F.Folder.state l.initial.folder).files

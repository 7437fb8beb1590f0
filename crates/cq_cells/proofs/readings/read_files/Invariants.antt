use Rattle.std.proofs.Common.{◌≡◌}
use Rattle.cq_cells.proofs.Filing.{AreRead}
use Rattle.cq_cells.proofs.readings.read_files.Given as goal

abbrev pub invariant-loop-entity : goal.invariant-loop-entity
invariant-loop-entity g l =
    ((g.F.Folder.state l.folder).files ≡ (g.F.Folder.state l.initial.folder).files)
    × AreRead (g.F.Folder.state l.initial.folder).files l.dir l.schema l.entity-index l.made.items

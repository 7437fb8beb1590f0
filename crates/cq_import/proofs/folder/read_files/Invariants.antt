use Rattle.std.proofs.Common.{◌≡◌, length}
use Rattle.cq_import.specs.Folders.{AreRead, Keeps}
use Rattle.cq_import.proofs.folder.read_files.Given as goal

abbrev pub invariant-loop-entity : goal.invariant-loop-entity
invariant-loop-entity g l =
    Keeps
    (g.F.Folder.state l.initial.folder)
    (g.F.Folder.state l.folder)
    × (length l.made.items ≡ l.entity)
    × AreRead l.dir l.schema (g.F.Folder.state l.initial.folder).files l.made.items

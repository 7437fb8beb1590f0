use Rattle.std.proofs.Common.{[], take, ◌≡◌}
use Rattle.cq_import.specs.Folders.{Keeps}
use Rattle.cq_environment.specs.Environment.{AreSettled, environment_of}
use Rattle.cq_program.specs.Program.{Follow}
use Rattle.cq_program.proofs.declarations.declare_all.Given as goal

-- the declarations so far meet their rules, what their names stand for is settled, the folder is kept, and they are counted
abbrev pub invariant-loop-decl : goal.invariant-loop-decl
invariant-loop-decl g l =
    Follow (g.F.Folder.state l.initial.folder).files [] (take l.decl-index l.decl-items) (environment_of l.env.names.entries)
    × AreSettled (environment_of l.env.names.entries)
    × Keeps (g.F.Folder.state l.initial.folder) (g.F.Folder.state l.folder)
    × (l.number ≡ l.decl-index)

use Rattle.std.proofs.Common.{◌≡◌}
use Rattle.cq_conflict.proofs.found.find_parts.Given as goal

abbrev pub invariant-loop-number : goal.invariant-loop-number
invariant-loop-number g l = (g.F.Folder.state l.folder).files ≡ (g.F.Folder.state l.initial.folder).files

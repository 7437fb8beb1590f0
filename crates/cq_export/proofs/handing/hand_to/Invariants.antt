use Rattle.std.proofs.Common.{map, take}
use Rattle.cq_io.specs.Content.{file_of}
use Rattle.cq_export.specs.Handing.{Takes}
use Rattle.cq_export.proofs.handing.hand_to.Given as goal

-- the exporter took the files so far
abbrev pub invariant-loop-file : goal.invariant-loop-file
invariant-loop-file g l =
    Takes (map file_of (take l.file-index l.files)) ((goal.Exporter-dyn g (l.initial.exporter.vtable, l.initial.exporter.value)).account l.initial.exporter.value)
    ((goal.Exporter-dyn g (l.exporter.vtable, l.exporter.value)).account l.exporter.value)

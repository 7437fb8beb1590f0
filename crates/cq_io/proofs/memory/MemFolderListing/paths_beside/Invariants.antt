use Rattle.std.proofs.Common.{◌≡◌, map, string_bytes, take}
use Rattle.cq_io.specs.Content.{File, file_of}
use Rattle.cq_io.proofs.memory.MemFolderListing.paths_beside.Given as goal

abbrev pub invariant-loop-file : goal.invariant-loop-file
-- the paths of the files that were passed
invariant-loop-file l = map string_bytes l.paths.items ≡ map {A = File} (λ file. file.0) (map file_of (take l.file-index l.file-items))

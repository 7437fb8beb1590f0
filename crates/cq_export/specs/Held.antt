-- The files that lists of the program hold.
use Rattle.std.specs.Prelude.{map}
use Rattle.cq_io.specs.Content.{file_of}
use Rattle.cq_export.specs.Files.{Files}
use Rattle.cq_export.specs.declared.files.FileLists.{FileLists}

abbrev pub files_held : FileLists → Files
files_held lists = record { csv = map file_of lists.csv.items; cql = map file_of lists.cql.items }

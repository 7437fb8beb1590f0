-- The files of instances.
use Rattle.std.specs.Prelude.{List, [], ◌∷◌, ◌++◌, ℕ, codes}
use Rattle.std.specs.List.{flat_map}
use Rattle.cq_base.specs.declared.name.Name.{Name}
use Rattle.cq_csv.specs.Files as csv
use Rattle.cq_export.specs.Files.{Files}
use Rattle.cq_io.specs.Content.{File}
use Rattle.cq_program.specs.Program.{Listing}
use Rattle.cq_text.specs.Literal.{literal_of}

-- of one instance, by comma-separated values
unfoldable pub csv_files : Listing → List File
csv_files L = csv.files_of L.name L.instance

-- the name of a literal's file
abbrev pub literal_name : Name → List ℕ
literal_name instance = instance ++ codes ".cql"

-- of one instance, in the language itself: its literal
unfoldable pub cql_files : Listing → List File
cql_files L = (literal_name L.name, literal_of L.name L.schema L.instance) ∷ []

-- instance by instance
unfoldable pub files_of : List Listing → Files
files_of L = record { csv = flat_map csv_files L; cql = flat_map cql_files L }

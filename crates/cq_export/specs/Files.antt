-- Files to export, by their format.
use Rattle.std.specs.Prelude.{List}
use Rattle.cq_io.specs.Content.{File}
use Rattle.cq_io.specs.declared.format.Format.{Format}
use Rattle.cq_io.specs.declared.format.Format.TheVariants.{Csv, Cql}

pub record Files : Type 0 where
  pub csv : List File
  pub cql : List File

abbrev pub files_in : Files → Format → List File
files_in files Csv = files.csv
files_in files Cql = files.cql

-- What holds of all files holds of those that a folder tells.
use Rattle.std.proofs.Common.{List, [], Option, None, Some}
use Rattle.cq_io.specs.Content.{File}
use Rattle.cq_import.specs.Imports.{OfFiles}

pub of_files : (files : Option (List File)) (P : List File → Type 0) → ((each : List File) → P each) → OfFiles files P
of_files None P all = ([], all [])
of_files (Some files) P all = all files

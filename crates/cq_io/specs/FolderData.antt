-- What is known of a folder.
use Rattle.std.specs.Prelude.{ℕ, Bool, List, Option}
use Rattle.cq_io.specs.Content.{File}

-- its files, where it tells them; how many reads found no file, failed, and found too many bytes; and whether none fails
pub record FolderData : Type 0 where
  pub files : Option (List File)
  pub absences : ℕ
  pub faults : ℕ
  pub overruns : ℕ
  pub steady : Bool

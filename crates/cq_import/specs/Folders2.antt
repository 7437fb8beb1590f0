-- The file of the nulls and the entries, as it was read from a folder.
use Rattle.std.specs.Prelude.{ℕ, List, ◌≡◌, ◌≤◌, ◌⊎◌, Option, Some, None, IfSome, length, string_bytes}
use Rattle.cq_base.specs.declared.name.Name.{Name}
use Rattle.cq_io.specs.Content.{File, find_file}
use Rattle.cq_import.specs.declared.entries_text.EntriesFile.{EntriesFile}
use Rattle.cq_import.specs.declared.refusal.CsvRefusal.{CsvRefusal}
use Rattle.cq_import.specs.Entries.{entries_file, marked_fault}
use Rattle.cq_import.specs.Faults.{Tells}
use Rattle.cq_import.specs.Folders.{IsUnread}
use Rattle.cq_import.specs.Imports.{most_bytes}
use Rattle.cq_import.specs.Records.{records_of}

module _ (dir : Name) (files : Option (List File)) where
  -- the file was read and passes
  pub record IsEntriesRead (file : EntriesFile) : Type 0 where
    pub named : string_bytes file.name ≡ entries_file dir
    pub short : length file.text.items ≤ most_bytes
    pub found : IfSome files (λ told. find_file (entries_file dir) told ≡ Some file.text.items)
    pub passed : marked_fault (entries_file dir) (records_of file.text.items) ≡ None

  -- a text of the file, in which something is wrong
  pub record IsEntriesWrong (r : CsvRefusal) : Type 0 where
    pub text : List ℕ
    pub short : length text ≤ most_bytes
    pub found : IfSome files (λ told. find_file (entries_file dir) told ≡ Some text)
    pub refuses : Tells r (marked_fault (entries_file dir) (records_of text))

  -- the file was not read, or something is wrong in it
  abbrev pub IsEntriesRefused : CsvRefusal → Type 0
  IsEntriesRefused r = IsUnread files (entries_file dir) r ⊎ IsEntriesWrong r

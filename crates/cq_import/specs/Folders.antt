-- Reading the files of a folder, one after the other.
use Rattle.std.specs.Prelude.{ℕ, Bool, true, false, List, [], ◌+◌, ◌≡◌, ◌≤◌, ◌<◌, ◌⊎◌, Option, Some, None, Result, Ok, Err, String, Vec}
use Rattle.std.specs.Prelude.{IfSome, length, slice_index_or, string_bytes}
use Rattle.std.specs.declared.alloc.Global.{Global}
use Rattle.cq_base.specs.declared.name.Name.{Name}
use Rattle.cq_io.specs.Content.{File, find_file}
use Rattle.cq_io.specs.Counts.{Rose}
use Rattle.cq_io.specs.FolderData.{FolderData}
use Rattle.cq_io.specs.Reads.{IsLonger}
use Rattle.cq_theory.specs.SchemaData.{SchemaData as Schema}
use Rattle.cq_import.specs.declared.entity_file.EntityFile.{EntityFile}
use Rattle.cq_import.specs.declared.refusal.CsvRefusal.{CsvRefusal}
use Rattle.cq_import.specs.declared.refusal.CsvRefusal.TheVariants as refusal
use Rattle.cq_import.specs.Columns.{header}
use Rattle.cq_import.specs.Faults.{Tells}
use Rattle.cq_import.specs.Imports.{IfAbsent, IfReadFault, IfTooLong, file_of, most_bytes}
use Rattle.cq_import.specs.Records.{records_of}
use Rattle.cq_import.specs.Rows.{sheet_fault}

-- reading leaves the files, no count falls, and a steady folder stays so and never fails
pub record Keeps (old new : FolderData) : Type 0 where
  pub files : new.files ≡ old.files
  pub absences : old.absences ≤ new.absences
  pub faults : old.faults ≤ new.faults
  pub overruns : old.overruns ≤ new.overruns
  pub steady : new.steady ≡ old.steady
  pub calm : old.steady ≡ true → new.faults ≡ old.faults

-- a read that is refused has raised its count
pub record Raises {A : Type 0} (old new : FolderData) (result : Result A CsvRefusal) : Type 0 where
  pub absent : IfAbsent result (Rose old.absences new.absences)
  pub failed : IfReadFault result (Rose old.faults new.faults)
  pub too_long : IfTooLong result (Rose old.overruns new.overruns)
  pub fails : IfReadFault result (old.steady ≡ false)

-- a text that was read, with its name
pub record IsReadText (files : Option (List File)) (name : List ℕ) (read : String Global × Vec ℕ Global) : Type 0 where
  pub named : string_bytes read.0 ≡ name
  pub short : length read.1.items ≤ most_bytes
  pub found : IfSome files (λ told. find_file name told ≡ Some read.1.items)

-- why the file of this name was not read
abbrev pub IsUnread : Option (List File) → List ℕ → CsvRefusal → Type 0
IsUnread files name (refusal.Absent file) = (string_bytes file ≡ name) × IfSome files (λ told. find_file name told ≡ None)
IsUnread files name (refusal.TooLong file) = (string_bytes file ≡ name) × IfSome files (IsLonger name most_bytes)
IsUnread files name (refusal.ReadFault file) = string_bytes file ≡ name
IsUnread files name refusal.Memory = Unit {0}
IsUnread files name r = ⊥

module _ (dir : Name) (S : Schema) where
  abbrev pub name_of : ℕ → List ℕ
  name_of entity = file_of [] dir S entity

  -- the file of an entity was read and passes
  pub record IsRead (files : Option (List File)) (entity : ℕ) (file : EntityFile) : Type 0 where
    pub named : string_bytes file.name ≡ name_of entity
    pub short : length file.text.items ≤ most_bytes
    pub found : IfSome files (λ told. find_file (name_of entity) told ≡ Some file.text.items)
    pub passed : sheet_fault (name_of entity) (header S entity) (records_of file.text.items) ≡ None

  -- a text of the entity's file, in which something is wrong
  pub record IsWrong (files : Option (List File)) (entity : ℕ) (r : CsvRefusal) : Type 0 where
    pub text : List ℕ
    pub short : length text ≤ most_bytes
    pub found : IfSome files (λ told. find_file (name_of entity) told ≡ Some text)
    pub refuses : Tells r (sheet_fault (name_of entity) (header S entity) (records_of text))

  -- the file of an entity was not read, or something is wrong in it
  abbrev pub IsRefused : Option (List File) → ℕ → CsvRefusal → Type 0
  IsRefused files entity r = IsUnread files (name_of entity) r ⊎ IsWrong files entity r

  -- the files of the entities before this one are read and pass
  abbrev pub AreRead : Option (List File) → List EntityFile → Type 0
  AreRead files made = (entity : ℕ) (d : EntityFile) → entity < length made → IsRead files entity (slice_index_or made entity d)

  -- reading stops at an entity
  pub record Stops (files : Option (List File)) (r : CsvRefusal) : Type 0 where
    pub made : List EntityFile
    pub within : length made < length S.entities
    pub read : AreRead files made
    pub refused : IsRefused files (length made) r

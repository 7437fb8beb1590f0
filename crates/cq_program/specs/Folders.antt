-- What a declaration reads of a folder of files, where the folder tells them, or of some files where it tells none.
use Rattle.std.specs.Prelude.{◌≡◌, false, ℕ, List, Option, Some, None, Result, Ok, Err, option_and_then, string_bytes}
use Rattle.cq_base.specs.declared.name.Name.{Name}
use Rattle.cq_io.specs.Content.{File}
use Rattle.cq_io.specs.Counts.{Rose}
use Rattle.cq_theory.specs.declared.presentation.Presentation.{Presentation}
use Rattle.cq_theory.specs.SchemaData.{SchemaData}
use Rattle.cq_import.specs.declared.refusal.CsvRefusal.{CsvRefusal}
use Rattle.cq_import.specs.declared.refusal.CsvRefusal.TheVariants as refusal
use Rattle.cq_import.specs.Entries.{IsNext2, OfFiles2, fault2_over, imported2_over}
use Rattle.cq_import.specs.Faults as fault
use Rattle.cq_import.specs.Faults.{Fault, told}
use Rattle.cq_io.specs.FolderData.{FolderData}
use Rattle.cq_import.specs.Imports.{IsNext, OfFiles, fault_of, imported}
use Rattle.cq_environment.specs.declared.reason.Reason.{Reason}
use Rattle.cq_environment.specs.declared.reason.Reason.TheVariants as reason
use Rattle.cq_environment.specs.declared.refusal.ReadCause.{ReadCause}
use Rattle.cq_environment.specs.declared.refusal.ReadCause.TheVariants.{Absent, TooLong, Failed}
use Rattle.cq_program.specs.declared.imports.stating.Format.{Format}
use Rattle.cq_program.specs.declared.imports.stating.Format.TheVariants.{First, Second}
use Rattle.cq_program.specs.Posed.{Posed, a_presentation}
use Rattle.cq_program.specs.Checks.{Stated, at_once, a_folder}

-- what a folder tells of its files
abbrev pub Told : Type 0
Told = Option (List File)

-- the rule that a fault in a folder breaks; a file that isn't read breaks none
abbrev pub rule_of : Fault → Option Reason
rule_of (fault.NotCsv file number) = Some (reason.NotCsv file number)
rule_of (fault.BadHeader file) = Some (reason.BadHeader file)
rule_of (fault.BadCell file number column) = Some (reason.BadCell file number column)
rule_of (fault.DoubleId file number) = Some (reason.DoubleId file number)
rule_of (fault.NoSuchId file number column) = Some (reason.NoSuchId file number column)
rule_of fault.TooLarge = Some reason.ManyRecords
rule_of _ = None

-- what an import tells where a file was not read for a cause
abbrev pub unread_fault : List ℕ → ReadCause → Fault
unread_fault file Absent = fault.Absent file
unread_fault file TooLong = fault.TooLong file
unread_fault file Failed = fault.ReadFault file

-- what stands in a folder: the first fault, what it presents where there is none, and the files any of which may be that which is read next
pub record Content : Type 1 where
  pub first : Option Fault
  pub presented : Presentation
  pub IsNextFile : List ℕ → Type 0

abbrev pub content_1 : List File → Name → SchemaData → Content
content_1 files dir S = record { first = fault_of files dir S; presented = imported files dir S; IsNextFile = IsNext files dir S }

-- the same with the text of the file of the nulls and the entries
abbrev pub content_2 : List File → Option (List ℕ) → Name → SchemaData → Content
content_2 files text dir S =
    record { first = fault2_over files text dir S; presented = imported2_over files text dir S; IsNextFile = IsNext2 files text dir S }

-- the claim holds of what stands in a folder of this format, or of what may stand in it where it tells no files
abbrev pub OfFolder : Told → Format → Name → SchemaData → (Content → Type 0) → Type 0
OfFolder files First dir S P = OfFiles files (λ each. P (content_1 each dir S))
OfFolder files Second dir S P = OfFiles2 files dir (λ each text. P (content_2 each text dir S))

-- what an import answers
abbrev pub IsImportOf : Content → Result Presentation CsvRefusal → Type 0
IsImportOf c (Ok made) = (c.first ≡ None) × (made ≡ c.presented)
IsImportOf c (Err refusal.Memory) = Unit {0}
IsImportOf c (Err (refusal.ReadFault file)) = c.IsNextFile (string_bytes file)
IsImportOf c (Err r) = c.first ≡ Some (told r)

-- What is posed once the files are read: a folder without fault poses the presentation that it gives.
abbrev pub Reads : Told → Stated → Posed → Type 0
Reads files (at_once posed) p = p ≡ posed
Reads files (a_folder format n S dir) p = OfFolder files format dir S (λ c. (c.first ≡ None) × (p ≡ a_presentation n S c.presented))

-- the reason tells the first fault in the folder
abbrev pub TellsFault : Told → Stated → Reason → Type 0
TellsFault files (at_once posed) reason = ⊥
TellsFault files (a_folder format n S dir) reason = OfFolder files format dir S (λ c. option_and_then rule_of c.first ≡ Some reason)

-- Why a file was not read: that it is absent, or too long, is the first fault in the folder; or its read failed, where it is the file that
-- is read next.
abbrev pub IsUnreadIn : Content → List ℕ → ReadCause → Type 0
IsUnreadIn c file Absent = c.first ≡ Some (fault.Absent file)
IsUnreadIn c file TooLong = c.first ≡ Some (fault.TooLong file)
IsUnreadIn c file Failed = c.IsNextFile file

-- a file of the folder that is stated was not read
abbrev pub LacksFile : Told → Stated → List ℕ → ReadCause → Type 0
LacksFile files (at_once posed) file cause = ⊥
LacksFile files (a_folder format n S dir) file cause = OfFolder files format dir S (λ c. IsUnreadIn c file cause)

-- the count of the cause rose, and a steady folder never fails
abbrev pub Raised : ReadCause → FolderData → FolderData → Type 0
Raised Absent old new = Rose old.absences new.absences
Raised TooLong old new = Rose old.overruns new.overruns
Raised Failed old new = Rose old.faults new.faults × (old.steady ≡ false)

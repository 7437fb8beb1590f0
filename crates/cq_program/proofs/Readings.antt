-- What an import answers is what a folder poses, its first fault, or a file that was not read.
use Rattle.std.proofs.Common.{◌≡◌, ℕ, false, List, Option, Some, None, refl, ap, ◌∙◌, subst, arith}
use Rattle.std.specs.Prelude.{Result, Ok, Err, option_and_then, string_bytes}
use Rattle.cq_base.specs.declared.name.Name.{Name}
use Rattle.cq_base.specs.declared.place.Place.{Place}
use Rattle.cq_io.specs.Content.{File}
use Rattle.cq_io.specs.Counts.{Rose}
use Rattle.cq_theory.specs.declared.presentation.Presentation.{Presentation}
use Rattle.cq_theory.specs.SchemaData.{SchemaData}
use Rattle.cq_import.specs.declared.refusal.CsvRefusal.{CsvRefusal}
use Rattle.cq_import.specs.declared.refusal.CsvRefusal.TheVariants as refusal
use Rattle.cq_import.specs.Faults as fault
use Rattle.cq_import.specs.Faults.{Fault, told}
use Rattle.cq_import.specs.Entries.{IsImport2Over, OfFiles2, entries_text}
use Rattle.cq_io.specs.FolderData.{FolderData}
use Rattle.cq_import.specs.Folders.{Keeps, Raises}
use Rattle.cq_import.specs.Imports.{IsImport, OfFiles, IfAbsent, IfReadFault, IfTooLong}
use Rattle.cq_environment.specs.declared.reason.Reason.{Reason}
use Rattle.cq_environment.specs.declared.refusal.ReadCause.{ReadCause}
use Rattle.cq_environment.specs.declared.refusal.ReadCause.TheVariants.{Absent, TooLong, Failed}
use Rattle.cq_environment.specs.declared.refusal.ProgramRefusal.{ProgramRefusal}
use Rattle.cq_environment.specs.declared.refusal.ProgramRefusal.TheVariants as program_refusal
use Rattle.cq_program.specs.declared.imports.stating.Format.{Format}
use Rattle.cq_program.specs.declared.imports.stating.Format.TheVariants.{First, Second}
use Rattle.cq_program.specs.Posed.{a_presentation}
use Rattle.cq_program.specs.Checks.{a_folder}
use Rattle.cq_program.specs.Folders.{Told, Content, content_1, content_2, OfFolder, IsImportOf, Reads, IsUnreadIn, Raised, rule_of, unread_fault}
use Rattle.cq_program.specs.Posing.{TellsReading, TellsImport}

pub keeps_itself : (a : FolderData) → Keeps a a
keeps_itself a = record { files = refl; absences = omega arith; faults = omega arith; overruns = omega arith; steady = refl; calm = λ steady. refl }

pub keeps_then : (a b c : FolderData) → Keeps a b → Keeps b c → Keeps a c
keeps_then a b c first second = record {
  files = second.files ∙ first.files;
  absences = omega (arith, first.absences, second.absences);
  faults = omega (arith, first.faults, second.faults);
  overruns = omega (arith, first.overruns, second.overruns);
  steady = second.steady ∙ first.steady;
  calm = λ steady. second.calm (first.steady ∙ steady) ∙ first.calm steady;
}

none_some : {X : Type 0} (x : X) → None ≡ Some x → ⊥
none_some x h = absurd (cc h)

of_files : (files : Told) (P Q : List File → Type 0) → ((each : List File) → P each → Q each) → OfFiles files P → OfFiles files Q
of_files None P Q f h = (h.0, f h.0 h.1)
of_files (Some files) P Q f h = f files h

of_files_2 : (files : Told) (dir : Name) (P Q : List File → Option (List ℕ) → Type 0) → ((each : List File) (text : Option (List ℕ)) → P each text → Q each text) → OfFiles2 files dir P → OfFiles2 files dir Q
of_files_2 None dir P Q f h = (h.0, h.1, f h.0 h.1 h.2)
of_files_2 (Some files) dir P Q f h = f files (entries_text files dir) h

-- a claim on what stands in a folder follows from another
of_map : (files : Told) (format : Format) (dir : Name) (S : SchemaData) (P Q : Content → Type 0) → ((c : Content) → P c → Q c) → OfFolder files format dir S P → OfFolder files format dir S Q
of_map files First dir S P Q f h = of_files files _ _ (λ each. f (content_1 each dir S)) h
of_map files Second dir S P Q f h = of_files_2 files dir _ _ (λ each text. f (content_2 each text dir S)) h

first_import : (files : List File) (dir : Name) (S : SchemaData) (r : Result Presentation CsvRefusal) → IsImport files dir S r → IsImportOf (content_1 files dir S) r
first_import files dir S (Ok made) is = is
first_import files dir S (Err (refusal.Absent file)) is = is
first_import files dir S (Err (refusal.ReadFault file)) is = is
first_import files dir S (Err (refusal.TooLong file)) is = is
first_import files dir S (Err (refusal.NotCsv file number)) is = is
first_import files dir S (Err (refusal.BadHeader file)) is = is
first_import files dir S (Err (refusal.BadCell file number column)) is = is
first_import files dir S (Err (refusal.DoubleId file number)) is = is
first_import files dir S (Err (refusal.NoSuchId file number column)) is = is
first_import files dir S (Err refusal.TooLarge) is = is
first_import files dir S (Err refusal.Memory) is = tt

second_import : (files : List File) (text : Option (List ℕ)) (dir : Name) (S : SchemaData) (r : Result Presentation CsvRefusal) → IsImport2Over files text dir S r → IsImportOf (content_2 files text dir S) r
second_import files text dir S (Ok made) is = is
second_import files text dir S (Err (refusal.Absent file)) is = is
second_import files text dir S (Err (refusal.ReadFault file)) is = is
second_import files text dir S (Err (refusal.TooLong file)) is = is
second_import files text dir S (Err (refusal.NotCsv file number)) is = is
second_import files text dir S (Err (refusal.BadHeader file)) is = is
second_import files text dir S (Err (refusal.BadCell file number column)) is = is
second_import files text dir S (Err (refusal.DoubleId file number)) is = is
second_import files text dir S (Err (refusal.NoSuchId file number column)) is = is
second_import files text dir S (Err refusal.TooLarge) is = is
second_import files text dir S (Err refusal.Memory) is = tt

-- what the imports answer is what an import of the format answers
pub answers_first : (files : Told) (dir : Name) (S : SchemaData) (r : Result Presentation CsvRefusal)
    → OfFiles files (λ each. IsImport each dir S r) → OfFolder files First dir S (λ c. IsImportOf c r)
answers_first files dir S r h = of_files files _ _ (λ each. first_import each dir S r) h

pub answers_second : (files : Told) (dir : Name) (S : SchemaData) (r : Result Presentation CsvRefusal)
    → OfFiles2 files dir (λ each text. IsImport2Over each text dir S r) → OfFolder files Second dir S (λ c. IsImportOf c r)
answers_second files dir S r h = of_files_2 files dir _ _ (λ each text. second_import each text dir S r) h

-- what an import gives is posed
pub reads_folder : (files : Told) (format : Format) (n : Name) (S : SchemaData) (dir : Name) (made : Presentation)
    → OfFolder files format dir S (λ c. IsImportOf c (Ok made)) → Reads files (a_folder format n S dir) (a_presentation n S made)
reads_folder files format n S dir made h =
    of_map files format dir S (λ c. IsImportOf c (Ok made)) (λ c. (c.first ≡ None) × (a_presentation n S made ≡ a_presentation n S c.presented))
    (λ c is. (is.0, ap (a_presentation n S) is.1)) h

module _ (c : Content) where
  -- what a fault says of the files: that it is the first, or that the file is read next
  abbrev Found : Fault → Type 0
  Found (fault.ReadFault file) = c.IsNextFile file
  Found fault.Memory = Unit {0}
  Found f = c.first ≡ Some f

  found : (r : CsvRefusal) → IsImportOf c (Err r) → Found (told r)
  found (refusal.Absent file) is = is
  found (refusal.ReadFault file) is = is
  found (refusal.TooLong file) is = is
  found (refusal.NotCsv file number) is = is
  found (refusal.BadHeader file) is = is
  found (refusal.BadCell file number column) is = is
  found (refusal.DoubleId file number) is = is
  found (refusal.NoSuchId file number column) is = is
  found refusal.TooLarge is = is
  found refusal.Memory is = tt

  faulty : (f : Fault) (reason : Reason) → Found f → rule_of f ≡ Some reason → option_and_then rule_of c.first ≡ Some reason
  faulty (fault.Absent file) reason is rule = absurd (none_some reason rule)
  faulty (fault.ReadFault file) reason is rule = absurd (none_some reason rule)
  faulty (fault.TooLong file) reason is rule = absurd (none_some reason rule)
  faulty (fault.NotCsv file number) reason is rule = ap (option_and_then rule_of) is ∙ rule
  faulty (fault.BadHeader file) reason is rule = ap (option_and_then rule_of) is ∙ rule
  faulty (fault.BadCell file number column) reason is rule = ap (option_and_then rule_of) is ∙ rule
  faulty (fault.DoubleId file number) reason is rule = ap (option_and_then rule_of) is ∙ rule
  faulty (fault.NoSuchId file number column) reason is rule = ap (option_and_then rule_of) is ∙ rule
  faulty fault.TooLarge reason is rule = ap (option_and_then rule_of) is ∙ rule
  faulty fault.Memory reason is rule = absurd (none_some reason rule)

  unread : (file : List ℕ) (cause : ReadCause) → Found (unread_fault file cause) → IsUnreadIn c file cause
  unread file Absent is = is
  unread file TooLong is = is
  unread file Failed is = is

module _ (old new : FolderData) where
  -- what a fault says of the counts
  abbrev RaisedBy : Fault → Type 0
  RaisedBy (fault.Absent file) = Rose old.absences new.absences
  RaisedBy (fault.ReadFault file) = Rose old.faults new.faults × (old.steady ≡ false)
  RaisedBy (fault.TooLong file) = Rose old.overruns new.overruns
  RaisedBy _ = Unit {0}

  raised_by : (r : CsvRefusal) → IfAbsent {A = Presentation} (Err r) (Rose old.absences new.absences) → IfReadFault {A = Presentation} (Err r) (Rose old.faults new.faults)
      → IfTooLong {A = Presentation} (Err r) (Rose old.overruns new.overruns) → IfReadFault {A = Presentation} (Err r) (old.steady ≡ false) → RaisedBy (told r)
  raised_by (refusal.Absent file) absent failed long fails = absent
  raised_by (refusal.ReadFault file) absent failed long fails = (failed, fails)
  raised_by (refusal.TooLong file) absent failed long fails = long
  raised_by (refusal.NotCsv file number) absent failed long fails = tt
  raised_by (refusal.BadHeader file) absent failed long fails = tt
  raised_by (refusal.BadCell file number column) absent failed long fails = tt
  raised_by (refusal.DoubleId file number) absent failed long fails = tt
  raised_by (refusal.NoSuchId file number column) absent failed long fails = tt
  raised_by refusal.TooLarge absent failed long fails = tt
  raised_by refusal.Memory absent failed long fails = tt

  raised : (file : List ℕ) (cause : ReadCause) → RaisedBy (unread_fault file cause) → Raised cause old new
  raised file Absent by = by
  raised file TooLong by = by
  raised file Failed by = by

  -- what an import tells is refused
  pub refuses_folder : (at : Place) (format : Format) (n : Name) (S : SchemaData) (dir : Name) (r : CsvRefusal) (answer : ProgramRefusal)
      → OfFolder old.files format dir S (λ c. IsImportOf c (Err r))
      → Raises {A = Presentation} old new (Err r) → TellsImport at (told r) answer → TellsReading at old new (a_folder format n S dir) answer
  refuses_folder at format n S dir r (program_refusal.Broken place reason) is by tells = (
    tells.0,
    of_map old.files format dir S (λ c. IsImportOf c (Err r)) (λ c. option_and_then rule_of c.first ≡ Some reason) (λ c here. faulty c (told r) reason (found c r here) tells.1) is,
  )
  refuses_folder at format n S dir r (program_refusal.Read file cause) is by tells = (
    of_map old.files format dir S (λ c. IsImportOf c (Err r)) (λ c. IsUnreadIn c (string_bytes file) cause)
        (λ c here. unread c (string_bytes file) cause (subst (Found c) tells (found c r here))) is,
    raised (string_bytes file) cause (subst RaisedBy tells (raised_by r by.absent by.failed by.too_long by.fails)),
  )
  refuses_folder at format n S dir r program_refusal.Memory is by tells = tt

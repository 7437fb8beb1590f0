-- What a run gives, for each status.
use Rattle.std.specs.Prelude.{◌≡◌, ◌⊎◌, ◌≤◌, ℕ, length, true, List, [], ◌∷◌, Some, None, IfSome}
use Rattle.std.specs.declared.option.Option.{Option}
use Rattle.cq_run.specs.Asked.{IsExplained, IsUnanswered}
use Rattle.cq_run.specs.Choice.{kept_by}
use Rattle.cq_example.specs.Text.{text_of}
use Rattle.cq_export.specs.Handing.{HandsOver}
use Rattle.cq_export.specs.declared.handing.Handed.{Handed}
use Rattle.cq_export.specs.declared.handing.Handed.TheVariants as handed
use Rattle.cq_io.specs.FolderData.{FolderData}
use Rattle.cq_io.specs.Account.{Account}
use Rattle.cq_io.specs.Content.{File, find_file}
use Rattle.cq_io.specs.Counts.{Rose}
use Rattle.cq_io.specs.Reads.{IsLonger}
use Rattle.cq_io.specs.Writes.{Appends, AppendsSome, LacksRoom}
use Rattle.cq_program.specs.Folders.{Raised, Told}
use Rattle.cq_program.specs.Program.{Listing}
use Rattle.cq_environment.specs.declared.refusal.ReadCause.{ReadCause}
use Rattle.cq_environment.specs.declared.refusal.ReadCause.TheVariants.{Absent, TooLong, Failed}
use Rattle.cq_run.specs.Ask.{depth_asked, only_asked}
use Rattle.cq_run.specs.Files.{files_of}
use Rattle.cq_run.specs.Lines.{usage_line, read_line}
use Rattle.cq_run.specs.Meaning.{Means, IsAcceptable, IsTreeOf, MissesFile, RefusesText, transcripts_of}
use Rattle.cq_run.specs.Scene.{Drain, Outlets, Scene}
use Rattle.cq_run.specs.Summary.{summary_of}
use Rattle.cq_run.specs.declared.status.Status.{Status}
use Rattle.cq_run.specs.declared.status.Status.TheVariants as status
use Rattle.cq_syntax.specs.declared.program.Program.{Program}
use Rattle.cq_words.specs.Ask.{Ask, run, example, explain}

-- how long the file may be: 8 MiB
abbrev pub file_limit : ℕ
file_limit = 8388608

-- the text of a file: the one under its name, where the folder tells its files, and no longer than the limit
pub record IsTextIn (file : List ℕ) (told : Told) (text : List ℕ) : Type 0 where
  pub found : IfSome told (λ files. find_file file files ≡ Some text)
  pub short : length text ≤ file_limit

-- the text of a run is that of its file, or of the example of its size
abbrev pub IsTextOf : Ask → Told → List ℕ → Type 0
IsTextOf (run file depth only) told text = IsTextIn file told text
IsTextOf (example size) told text = text ≡ text_of size
IsTextOf (explain file instance left right depth) told text = IsTextIn file told text

-- what the cause says of the file, where the folder tells its files: it is missing, or longer than the limit
abbrev pub IsCauseOf : ReadCause → List ℕ → Told → Type 0
IsCauseOf Absent file told = IfSome told (λ files. find_file file files ≡ None)
IsCauseOf TooLong file told = IfSome told (IsLonger file file_limit)
IsCauseOf Failed file told = Unit {0}

-- the line is what the run writes of the instances: the transcripts of those of a file, the summary of those of an example, or the answer
-- to what is asked of one of them
abbrev pub Shows : Ask → List Listing → List ℕ → Type 0
Shows (run file depth only) listings line = line ≡ transcripts_of listings
Shows (example size) listings line = line ≡ summary_of listings
Shows (explain file instance left right depth) listings line = IsExplained instance left right listings line

-- the text of the run means instances, and the line is what is written of them
pub record IsAccepted (ask : Ask) (told : Told) (line : List ℕ) : Type 0 where
  pub text : List ℕ
  pub is_text : IsTextOf ask told text
  pub listings : List Listing
  pub means : Means told text listings
  pub shows : Shows ask listings line

-- the text of the run is refused, with this line, and is none that would be accepted
pub record IsRefused (ask : Ask) (told : Told) (line : List ℕ) : Type 0 where
  pub text : List ℕ
  pub is_text : IsTextOf ask told text
  pub refuses : RefusesText (depth_asked ask) told text line
  pub other : IsAcceptable (depth_asked ask) told text → ⊥

-- a question about the instances has no answer, and the line says why
abbrev pub SaysUnanswered : Ask → List Listing → List ℕ → Type 0
SaysUnanswered (run file depth only) listings line = ⊥
SaysUnanswered (example size) listings line = ⊥
SaysUnanswered (explain file instance left right depth) listings line = IsUnanswered instance left right listings line

-- the text of the run means instances, and what is asked of them has no answer
pub record LacksAnswer (ask : Ask) (told : Told) (line : List ℕ) : Type 0 where
  pub text : List ℕ
  pub is_text : IsTextOf ask told text
  pub listings : List Listing
  pub means : Means told text listings
  pub says : SaysUnanswered ask listings line

-- the text is refused, or the question has no answer
abbrev pub IsRefusedLine : Ask → Told → List ℕ → Type 0
IsRefusedLine ask told line = IsRefused ask told line ⊎ LacksAnswer ask told line

-- the file of the run was not read, for a cause whose count rose, and the line says so
pub record IsUnread (file : List ℕ) (before after : FolderData) (line : List ℕ) : Type 0 where
  pub cause : ReadCause
  pub holds : IsCauseOf cause file before.files
  pub raised : Raised cause before after
  pub line_is : line ≡ read_line file cause

abbrev pub LacksText : Ask → FolderData → FolderData → List ℕ → Type 0
LacksText (run file depth only) before after line = IsUnread file before after line
LacksText (example size) before after line = ⊥
LacksText (explain file instance left right depth) before after line = IsUnread file before after line

-- the text of the run is that of a program, a file that this reads was not read, and the line says so
pub record LacksFile (ask : Ask) (before after : FolderData) (line : List ℕ) : Type 0 where
  pub text : List ℕ
  pub is_text : IsTextOf ask before.files text
  pub tree : Program
  pub is_tree : IsTreeOf text tree
  pub misses : MissesFile before after tree line

-- a file that is due was not read, and the line says so: that of the run, or one that its program reads
abbrev pub IsUnreadLine : Ask → FolderData → FolderData → List ℕ → Type 0
IsUnreadLine ask before after line = LacksText ask before after line ⊎ LacksFile ask before after line

-- what a run has to write, and why, by the status that it has where the write succeeds
abbrev pub HasToWrite : Option Ask → FolderData → FolderData → Status → List ℕ → Type 0
HasToWrite None before after status.Usage line = (line ≡ usage_line) × (after ≡ before)
HasToWrite (Some ask) before after status.Ok line = IsAccepted ask before.files line
HasToWrite (Some ask) before after status.Refused line = IsRefusedLine ask before.files line
HasToWrite (Some ask) before after status.Read line = IsUnreadLine ask before after line
HasToWrite _ before after _ line = ⊥

-- the write failed, and a prefix of the line was written
pub record Loses (before after : Drain) (line : List ℕ) : Type 0 where
  pub written : AppendsSome before.held after.held line
  pub cause : Rose before.faults after.faults
  pub no_room : LacksRoom before.spare line

-- the exporters that the words keep, in their order
abbrev pub kept_of : Option Ask → List Account → List Account
kept_of None exporters = exporters
kept_of (Some ask) exporters = kept_by (only_asked ask) exporters

-- the exporters are the kept ones, as they were, and none was moved
pub record KeepsAll (ask : Option Ask) (before after : Outlets) : Type 0 where
  pub exporters : after.exporters ≡ kept_of ask before.exporters
  pub spoiled : after.spoiled ≡ before.spoiled

-- what is due was written whole, once, and nothing was exported
pub record WritesLine (ask : Option Ask) (before after : Scene) (status : Status) : Type 0 where
  pub line : List ℕ
  pub due : HasToWrite ask before.folder after.folder status line
  pub written : Appends before.out.held after.out.held line
  pub keeps : KeepsAll ask before.outlets after.outlets

-- the sink failed, and has a prefix of what is due; nothing was exported
pub record FailsToWrite (ask : Option Ask) (before after : Scene) : Type 0 where
  pub wanted : Status
  pub line : List ℕ
  pub due : HasToWrite ask before.folder after.folder wanted line
  pub loses : Loses before.out after.out line
  pub keeps : KeepsAll ask before.outlets after.outlets

-- the text was accepted, what the run writes of its instances was written whole, once, and their files were handed to the kept exporters
pub record Exports (ask : Ask) (before after : Scene) (ended : Handed) : Type 0 where
  pub text : List ℕ
  pub is_text : IsTextOf ask before.folder.files text
  pub listings : List Listing
  pub means : Means before.folder.files text listings
  pub line : List ℕ
  pub shows : Shows ask listings line
  pub written : Appends before.out.held after.out.held line
  pub hands : HandsOver (files_of listings) (kept_of (Some ask) before.outlets.exporters) after.outlets.exporters before.outlets.spoiled
      after.outlets.spoiled ended

-- a question exports nothing
abbrev pub ExportsSome : Option Ask → Scene → Scene → Handed → Type 0
ExportsSome None before after ended = ⊥
ExportsSome (Some (run file depth only)) before after ended = Exports (run file depth only) before after ended
ExportsSome (Some (example size)) before after ended = Exports (example size) before after ended
ExportsSome (Some (explain file instance left right depth)) before after ended = ⊥

-- what a run gives that ends well: its files are exported, or what is asked is answered
abbrev pub Finishes : Option Ask → Scene → Scene → Type 0
Finishes None before after = ⊥
Finishes (Some (run file depth only)) before after = Exports (run file depth only) before after handed.Whole
Finishes (Some (example size)) before after = Exports (example size) before after handed.Whole
Finishes (Some (explain file instance left right depth)) before after =
    WritesLine (Some (explain file instance left right depth)) before after status.Ok

-- want of memory before anything was written; the exporters are those handed in or the kept ones, as they were
pub record GivesUp (ask : Option Ask) (before after : Scene) : Type 0 where
  pub out : after.out ≡ before.out
  pub spoiled : after.outlets.spoiled ≡ before.outlets.spoiled
  pub exporters : (after.outlets.exporters ≡ before.outlets.exporters) ⊎ (after.outlets.exporters ≡ kept_of ask before.outlets.exporters)

-- what a run gives
abbrev pub RunGives : Option Ask → Scene → Scene → Status → Type 0
RunGives ask before after status.Ok = Finishes ask before after
RunGives ask before after status.Refused = WritesLine ask before after status.Refused
RunGives ask before after status.Usage = WritesLine ask before after status.Usage
RunGives ask before after status.Read = WritesLine ask before after status.Read
RunGives ask before after status.Write = FailsToWrite ask before after ⊎ ExportsSome ask before after handed.Spoiled
RunGives ask before after status.Memory = GivesUp ask before after ⊎ ExportsSome ask before after handed.Memory

-- the text of a file, where the folder tells it within the limit
pub record IsToldWithin (file : List ℕ) (told : Told) (text : List ℕ) : Type 0 where
  pub files : List File
  pub tells : told ≡ Some files
  pub found : find_file file files ≡ Some text
  pub short : length text ≤ file_limit

-- the text of the example, where the folder tells its files
pub record IsExample (size : ℕ) (told : Told) (text : List ℕ) : Type 0 where
  pub files : List File
  pub tells : told ≡ Some files
  pub is_text : text ≡ text_of size

abbrev pub HasText : Ask → Told → List ℕ → Type 0
HasText (run file depth only) told text = IsToldWithin file told text
HasText (example size) told text = IsExample size told text
HasText (explain file instance left right depth) told text = IsToldWithin file told text

-- none of the exporters ever fails
abbrev pub AreSteady : List Account → Type 0
AreSteady [] = Unit {0}
AreSteady (exporter ∷ exporters) = (exporter.steady ≡ true) × AreSteady exporters

-- the sink tells that it has room for what is to be written of the instances
pub record HasRoom (ask : Ask) (told : Told) (spare : Option ℕ) (text : List ℕ) : Type 0 where
  pub room : ℕ
  pub tells : spare ≡ Some room
  pub fits : (listings : List Listing) (line : List ℕ) → Means told text listings → Shows ask listings line → length line ≤ room

-- The sink takes what is to be written: it has room, or the run is a question, whose answer may have any length, and no write fails.
abbrev pub TakesAll : Ask → List ℕ → Scene → Scene → Type 0
TakesAll (run file depth only) text before after = HasRoom (run file depth only) before.folder.files before.out.spare text
TakesAll (example size) text before after = HasRoom (example size) before.folder.files before.out.spare text
TakesAll (explain file instance left right depth) text before after = Rose before.out.faults after.out.faults → ⊥

-- the words are read, the text is there, has a meaning over the files that are told, breaks no rule and passes no limit at their depth, a
-- question has an answer, no device fails, and the sink takes what is to be written
pub record CanSucceed (ask : Option Ask) (before after : Scene) : Type 0 where
  pub wanted : Ask
  pub asked : ask ≡ Some wanted
  pub text : List ℕ
  pub there : HasText wanted before.folder.files text
  pub acceptable : IsAcceptable (depth_asked wanted) before.folder.files text
  pub answered : (line : List ℕ) → LacksAnswer wanted before.folder.files line → ⊥
  pub folder : before.folder.steady ≡ true
  pub takes : TakesAll wanted text before after
  pub exporters : AreSteady before.outlets.exporters

-- such a run succeeds, or has no memory
abbrev pub Succeeds : Option Ask → Scene → Scene → Status → Type 0
Succeeds ask before after result = CanSucceed ask before after → (result ≡ status.Ok) ⊎ (result ≡ status.Memory)

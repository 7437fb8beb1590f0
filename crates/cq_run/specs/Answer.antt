-- What reading and judging a text gives, before anything is written.
use Rattle.std.specs.Prelude.{◌≡◌, ℕ, List, map}
use Rattle.cq_export.specs.Held.{files_held}
use Rattle.cq_io.specs.FolderData.{FolderData}
use Rattle.cq_io.specs.declared.refusal.ReadRefusal.{ReadRefusal}
use Rattle.cq_io.specs.declared.refusal.ReadRefusal.TheVariants as refused
use Rattle.cq_program.specs.Folders.{Told}
use Rattle.cq_program.specs.Named.{listed_as}
use Rattle.cq_program.specs.Program.{Listing}
use Rattle.cq_environment.specs.declared.refusal.ReadCause.{ReadCause}
use Rattle.cq_environment.specs.declared.refusal.ReadCause.TheVariants.{Absent, TooLong, Failed}
use Rattle.cq_run.specs.Ask.{depth_asked}
use Rattle.cq_run.specs.Clause.{IsTextOf, IsUnreadLine}
use Rattle.cq_run.specs.Files.{files_of}
use Rattle.cq_run.specs.Lines.{read_line}
use Rattle.cq_run.specs.Meaning.{Means, IsAcceptable, IsTreeOf, MissesFile, RefusesText}
use Rattle.cq_run.specs.declared.answer.Answer.{Answer}
use Rattle.cq_run.specs.declared.answer.Answer.TheVariants as answer
use Rattle.cq_run.specs.declared.output.Output.{Output}
use Rattle.cq_run.specs.Summary.{shown_in}
use Rattle.cq_run.specs.declared.output.View.{View}
use Rattle.cq_syntax.specs.declared.program.Program.{Program}
use Rattle.cq_words.specs.Ask.{Ask}

-- the output is that of these instances
pub record Prints (view : View) (listings : List Listing) (output : Output) : Type 0 where
  pub shown : output.shown.items ≡ shown_in view listings
  pub files : files_held output.files ≡ files_of listings

-- the text is refused, with this line
pub record IsRefusalOf (depth : ℕ) (told : Told) (text line : List ℕ) : Type 0 where
  pub refuses : RefusesText depth told text line
  pub other : IsAcceptable depth told text → ⊥

-- how a text is judged, over the folder before and after
abbrev pub Judges : ℕ → FolderData → FolderData → List ℕ → Answer → Type 0
Judges depth before after text (answer.Accepted instances) = Means before.files text (map listed_as instances.items)
Judges depth before after text (answer.Refused line) = IsRefusalOf depth before.files text line.items
Judges depth before after text (answer.Unread line) = (tree : Program) × IsTreeOf text tree × MissesFile before after tree line.items
Judges depth before after text answer.Memory = Unit {0}

pub record JudgesSome (ask : Ask) (before after : FolderData) (answer : Answer) : Type 0 where
  pub text : List ℕ
  pub is_text : IsTextOf ask before.files text
  pub judges : Judges (depth_asked ask) before after text answer

-- what the answer to a request is
abbrev pub Answers : Ask → FolderData → FolderData → Answer → Type 0
Answers ask before after (answer.Accepted instances) = JudgesSome ask before after (answer.Accepted instances)
Answers ask before after (answer.Refused line) = JudgesSome ask before after (answer.Refused line)
Answers ask before after (answer.Unread line) = IsUnreadLine ask before after line.items
Answers ask before after answer.Memory = Unit {0}

-- the line of a file that was not read
abbrev pub SaysUnread : List ℕ → ReadCause → Answer → Type 0
SaysUnread name cause (answer.Unread line) = line.items ≡ read_line name cause
SaysUnread name cause answer.Memory = Unit {0}
SaysUnread name cause _ = ⊥

-- the same by the refusal of the read
abbrev pub SaysRead : List ℕ → ReadRefusal → Answer → Type 0
SaysRead name refused.Absent told = SaysUnread name Absent told
SaysRead name refused.TooLong told = SaysUnread name TooLong told
SaysRead name refused.Failed told = SaysUnread name Failed told
SaysRead name refused.Memory told = told ≡ answer.Memory

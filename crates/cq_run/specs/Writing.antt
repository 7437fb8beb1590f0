-- What the steps that write give.
use Rattle.std.specs.Prelude.{◌≡◌, ◌⊎◌, ℕ, List}
use Rattle.cq_export.specs.Files.{Files}
use Rattle.cq_export.specs.Handing.{HandsOver}
use Rattle.cq_export.specs.declared.handing.Handed.{Handed}
use Rattle.cq_export.specs.declared.handing.Handed.TheVariants as handed
use Rattle.cq_io.specs.Writes.{Appends}
use Rattle.cq_program.specs.Folders.{Told}
use Rattle.cq_program.specs.Program.{Listing}
use Rattle.cq_run.specs.Asked.{IsReply}
use Rattle.cq_run.specs.Clause.{Loses}
use Rattle.cq_run.specs.Files.{files_of}
use Rattle.cq_run.specs.Meaning.{Means, transcripts_of}
use Rattle.cq_run.specs.Scene.{Drain, Outlets}
use Rattle.cq_run.specs.Summary.{summary_of}
use Rattle.cq_run.specs.declared.status.Status.{Status}
use Rattle.cq_run.specs.declared.status.Status.TheVariants as status
use Rattle.cq_words.specs.Ask.{Ask, run, example, explain}

-- the line was written and the status is the one that was wanted, or the write failed
abbrev pub Tells : Status → Status → Drain → Drain → List ℕ → Type 0
Tells wanted result before after line =
    ((result ≡ wanted) × Appends before.held after.held line) ⊎ ((result ≡ status.Write) × Loses before after line)

-- the status of a run whose files were handed over
abbrev pub status_of : Handed → Status
status_of handed.Whole = status.Ok
status_of handed.Spoiled = status.Write
status_of handed.Memory = status.Memory

-- how far the export of files with this transcript came
pub data Stage (files : Files) (transcript : List ℕ) (out new_out : Drain) (outlets new_outlets : Outlets) : Status → Type 0 where
  no_room : new_out ≡ out → new_outlets ≡ outlets → Stage files transcript out new_out outlets new_outlets status.Memory
  no_sink : Loses out new_out transcript → new_outlets ≡ outlets → Stage files transcript out new_out outlets new_outlets status.Write
  handed_over : (ended : Handed) → Appends out.held new_out.held transcript
      → HandsOver files outlets.exporters new_outlets.exporters outlets.spoiled new_outlets.spoiled ended
      → Stage files transcript out new_out outlets new_outlets (status_of ended)

-- some text means these instances
abbrev pub IsMeant : List Listing → Type 0
IsMeant listings = (told : Told) × (text : List ℕ) × Means told text listings

-- one of the lines that may be due for a status was told, or memory was wanting before
pub data Replied (IsDue : Status → List ℕ → Type 0) (out new_out : Drain) (result : Status) : Type 0 where
  was_told : (wanted : Status) (line : List ℕ) → IsDue wanted line → Tells wanted result out new_out line → Replied IsDue out new_out result
  no_memory : result ≡ status.Memory → new_out ≡ out → Replied IsDue out new_out result

-- what becomes of the instances that a text means: they are exported, or what is asked of one of them is answered
abbrev pub Publishes : Ask → List Listing → Drain → Drain → Outlets → Outlets → Status → Type 0
Publishes (run file depth only) L out new_out outlets new_outlets result =
    Stage (files_of L) (transcripts_of L) out new_out outlets new_outlets result
Publishes (example size) L out new_out outlets new_outlets result =
    Stage (files_of L) (summary_of L) out new_out outlets new_outlets result
Publishes (explain file name left right depth) L out new_out outlets new_outlets result =
    Replied (IsReply name left right L) out new_out result × (new_outlets ≡ outlets)

-- What a run of a file writes to a sink in memory, with no exporters.
use Rattle.std.proofs.Common.{◌≡◌, ℕ, List, Option, Some, None, Result, Ok, Err, IfOk, map, refl, subst}
use Rattle.std.specs.Prelude.{IfSome, Vec}
use Rattle.std.specs.declared.alloc.Global.{Global}
use Rattle.cq_io.specs.FolderData.{FolderData}
use Rattle.cq_io.specs.Reads.{IsReadOf}
use Rattle.cq_io.specs.declared.refusal.ReadRefusal.{ReadRefusal}
use Rattle.cq_program.specs.Named.{listed_as}
use Rattle.cq_program.specs.declared.declarations.Named.{Named}
use Rattle.cq_program.specs.declared.stops.Stop.{Stop}
use Rattle.cq_run.proofs.Running.{accepted_runs, refused_runs, scene_of, unread_runs}
use Rattle.cq_run.proofs.Stopping.{each_stops}
use Rattle.cq_run.specs.Answer.{Answers}
use Rattle.cq_run.specs.Clause.{file_limit}
use Rattle.cq_run.specs.Meaning.{IsTreeOf, transcripts_of}
use Rattle.cq_run.specs.Stops.{HasStop}
use Rattle.cq_run.specs.declared.answer.Answer.{Answer}
use Rattle.cq_run.specs.declared.answer.Answer.TheVariants as answer
use Rattle.cq_run.specs.declared.status.Status.TheVariants as status
use Rattle.cq_told.specs.Explained.{StopsIn}
use Rattle.cq_words.specs.Ask.{run}
use Rattle.cq_why.specs.Clause.{Ran}

module _ (file : List ℕ) (depth : ℕ) (before after : FolderData) where
  pub ran_accepted : (instances : Vec Named Global) (a : Answer) → a ≡ answer.Accepted instances → Answers (run file depth None) before after a
      → Ran (Some (run file depth None)) before status.Ok (transcripts_of (map listed_as instances.items))
  ran_accepted instances a is answers = record {
    finish = scene_of after (transcripts_of (map listed_as instances.items));
    gives = accepted_runs file depth before after instances a is answers;
    holds = refl;
  }

  pub ran_refused : (line : Vec ℕ Global) (a : Answer) → a ≡ answer.Refused line → Answers (run file depth None) before after a
      → Ran (Some (run file depth None)) before status.Refused line.items
  ran_refused line a is answers =
      record { finish = scene_of after line.items; gives = refused_runs file depth before after line a is answers; holds = refl }

  pub ran_unread : (line : Vec ℕ Global) (a : Answer) → a ≡ answer.Unread line → Answers (run file depth None) before after a
      → Ran (Some (run file depth None)) before status.Read line.items
  ran_unread line a is answers =
      record { finish = scene_of after line.items; gives = unread_runs file depth before after line a is answers; holds = refl }

  -- what was read is what the folder still tells
  pub read_later : (reading : Result (Vec ℕ Global) ReadRefusal) → after.files ≡ before.files → IfSome before.files (IsReadOf file file_limit reading)
      → IfSome after.files (IsReadOf file file_limit reading)
  read_later reading kept read = rw kept read

  -- where the program of a text stops that is refused, or that lacks a file
  stops_in : (text : List ℕ) (line : Vec ℕ Global) (stop : Option Stop) → HasStop (IsTreeOf text) depth before.files (answer.Refused line) stop
      → StopsIn depth before.files text stop
  stops_in text line (Some stop) has = λ tokens lexed tree spelled fits.
      each_stops depth before.files text (answer.Refused line) stop has tree (record { tokens = tokens; lexed = lexed; spelled = (spelled, fits) })
  stops_in text line None has = λ tokens lexed tree spelled fits. has tree (record { tokens = tokens; lexed = lexed; spelled = (spelled, fits) })

  pub stops_later : (reading : Result (Vec ℕ Global) ReadRefusal) (line : Vec ℕ Global) (stop : Option Stop) → after.files ≡ before.files
      → IfOk reading (λ text. HasStop (IsTreeOf text.items) depth before.files (answer.Refused line) stop)
      → IfOk reading (λ text. StopsIn depth after.files text.items stop)
  stops_later (Ok text) line stop kept has = rw kept (stops_in text.items line stop has)
  stops_later (Err e) line stop kept has = tt

  -- the same beside the answer
  pub stops_refused : (reading : Result (Vec ℕ Global) ReadRefusal) (line : Vec ℕ Global) (a : Answer) (stop : Option Stop) → a ≡ answer.Refused line
      → after.files ≡ before.files → IfOk reading (λ text. HasStop (IsTreeOf text.items) depth before.files a stop)
      → IfOk reading (λ text. StopsIn depth after.files text.items stop)
  stops_refused reading line a stop is kept has =
      stops_later reading line stop kept
      (subst (λ (x : Answer). IfOk reading (λ text. HasStop (IsTreeOf text.items) depth before.files x stop)) is has)

  pub stops_unread : (reading : Result (Vec ℕ Global) ReadRefusal) (line : Vec ℕ Global) (a : Answer) (stop : Option Stop) → a ≡ answer.Unread line
      → after.files ≡ before.files → IfOk reading (λ text. HasStop (IsTreeOf text.items) depth before.files a stop)
      → IfOk reading (λ text. StopsIn depth after.files text.items stop)
  stops_unread (Err e) line a stop is kept has = tt
  stops_unread (Ok text) line a (Some stop) is kept has = rw kept (stops_in text.items line (Some stop) has)
  stops_unread (Ok text) line a None is kept has =
      rw kept (stops_in text.items line None (subst (λ (x : Answer). HasStop (IsTreeOf text.items) depth before.files x None) is has))

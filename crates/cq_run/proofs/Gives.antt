-- From what each step of a run gives to what the run gives.
use Rattle.std.proofs.Common.{◌≡◌, ◌≤◌, inl, inr, ℕ, List, Option, Some, None, true, false, length, map, refl, ap, sym, subst, arith}
use Rattle.std.specs.Prelude.{IfSome}
use Rattle.cq_export.specs.Files.{Files}
use Rattle.cq_export.specs.Handing.{HandsOver}
use Rattle.cq_export.specs.declared.handing.Handed.{Handed}
use Rattle.cq_export.specs.declared.handing.Handed.TheVariants as handed
use Rattle.cq_io.specs.Account.{Account}
use Rattle.cq_io.specs.Writes.{Appends, LacksRoom}
use Rattle.cq_program.specs.Program.{Listing}
use Rattle.cq_run.specs.Ask.{depth_asked}
use Rattle.cq_run.specs.Answer.{IsRefusalOf}
use Rattle.cq_run.specs.Asked.{IsReply}
use Rattle.cq_run.specs.Clause.{HasToWrite, IsTextOf, IsUnreadLine, KeepsAll, RunGives, Shows, WritesLine, kept_of}
use Rattle.cq_run.specs.Files.{files_of}
use Rattle.cq_run.specs.Lines.{usage_line}
use Rattle.cq_run.specs.Meaning.{Means, RefusesText, transcripts_of}
use Rattle.cq_run.specs.Summary.{summary_of}
use Rattle.cq_run.specs.Scene.{Drain, Outlets, Scene}
use Rattle.cq_run.specs.Writing.{Publishes, Replied, Stage, Tells, handed_over, no_memory, no_room, no_sink, status_of, was_told}
use Rattle.cq_run.specs.declared.status.Status.{Status}
use Rattle.cq_run.specs.declared.status.Status.TheVariants as status
use Rattle.cq_words.specs.Ask.{Ask, run, example, explain}

-- a sink that failed had less room than was needed
pub lacks_room : (spare : Option ℕ) (bytes : List ℕ) (Q R : ℕ → Type 0)
    → IfSome spare (λ room. length bytes ≤ room → (false ≡ true) × Q room × R room) → LacksRoom spare bytes
lacks_room None bytes Q R h = tt
lacks_room (Some room) bytes Q R h =
    let no : length bytes ≤ room → ⊥ = λ le.
    let bad = (h le).0 in
    cc in
    omega arith

-- a line was told
told_gives : (asked ask : Option Ask) (before after : Scene) (wanted result : Status) (line : List ℕ)
    → asked ≡ ask → Tells wanted result before.out after.out line → HasToWrite ask before.folder after.folder wanted line
    → KeepsAll ask before.outlets after.outlets → (WritesLine ask before after wanted → RunGives ask before after wanted)
    → RunGives asked before after result
told_gives asked ask before after wanted result line is (inl told) due keeps gives =
    rw (is, told.0) (gives (record { line = line; due = due; written = told.1; keeps = keeps }))
told_gives asked ask before after wanted result line is (inr lost) due keeps gives =
    rw (is, lost.0) (inl (record { wanted = wanted; line = line; due = due; loses = lost.1; keeps = keeps }))

-- the words were refused
pub usage_gives : (asked : Option Ask) (before after : Scene) (result : Status) (line : List ℕ)
    → None ≡ asked → Tells status.Usage result before.out after.out line → line ≡ usage_line → after.folder ≡ before.folder
    → after.outlets ≡ before.outlets → RunGives asked before after result
usage_gives asked before after result line is tells line_is folder outlets =
    told_gives asked None before after status.Usage result line (sym is) tells (line_is, folder)
    (record { exporters = ap (λ (o : Outlets). o.exporters) outlets; spoiled = ap (λ (o : Outlets). o.spoiled) outlets }) (λ w. w)

-- the text was refused
pub refusal_gives : (asked : Option Ask) (ask : Ask) (before after : Scene) (result : Status) (line told text : List ℕ)
    → Some ask ≡ asked → Tells status.Refused result before.out after.out told → told ≡ line
    → IsTextOf ask before.folder.files text → IsRefusalOf (depth_asked ask) before.folder.files text line
    → after.outlets.exporters ≡ kept_of (Some ask) before.outlets.exporters → after.outlets.spoiled ≡ before.outlets.spoiled
    → RunGives asked before after result
refusal_gives asked ask before after result line told text is tells told_is is_text refusal exporters spoiled =
    told_gives asked (Some ask) before after status.Refused result told (sym is) tells
    (inl (record { text = text; is_text = is_text; refuses = subst (RefusesText (depth_asked ask) before.folder.files text) (sym told_is) refusal.refuses; other = refusal.other }))
    (record { exporters = exporters; spoiled = spoiled }) (λ w. w)

-- the file was not read
pub unread_gives : (asked : Option Ask) (ask : Ask) (before after : Scene) (result : Status) (line told : List ℕ)
    → Some ask ≡ asked → Tells status.Read result before.out after.out told → told ≡ line
    → IsUnreadLine ask before.folder after.folder line
    → after.outlets.exporters ≡ kept_of (Some ask) before.outlets.exporters → after.outlets.spoiled ≡ before.outlets.spoiled
    → RunGives asked before after result
unread_gives asked ask before after result line told is tells told_is unread exporters spoiled =
    told_gives asked (Some ask) before after status.Read result told (sym is) tells
    (rw told_is unread) (record { exporters = exporters; spoiled = spoiled }) (λ w. w)

abbrev pub kept_outlets : Ask → Outlets → Outlets
kept_outlets ask outlets = record { exporters = kept_of (Some ask) outlets.exporters; spoiled = outlets.spoiled }

-- a run that exports
abbrev IsExport : Ask → Type 0
IsExport (run file depth only) = Unit {0}
IsExport (example size) = Unit {0}
IsExport (explain file instance left right depth) = ⊥

handed_gives : (ask : Ask) (before after : Scene) (text : List ℕ) (listings : List Listing) (line : List ℕ) (ended : Handed) → IsExport ask
    → IsTextOf ask before.folder.files text → Means before.folder.files text listings → Shows ask listings line
    → Appends before.out.held after.out.held line
    → HandsOver (files_of listings) (kept_of (Some ask) before.outlets.exporters) after.outlets.exporters before.outlets.spoiled after.outlets.spoiled ended
    → RunGives (Some ask) before after (status_of ended)
handed_gives (explain file instance left right depth) before after text listings line ended export is_text means shows written hands = absurd export
handed_gives (run file depth only) before after text listings line handed.Whole export is_text means shows written hands =
    record { text = text; is_text = is_text; listings = listings; means = means; line = line; shows = shows; written = written; hands = hands }
handed_gives (run file depth only) before after text listings line handed.Spoiled export is_text means shows written hands =
    inr (record { text = text; is_text = is_text; listings = listings; means = means; line = line; shows = shows; written = written; hands = hands })
handed_gives (run file depth only) before after text listings line handed.Memory export is_text means shows written hands =
    inr (record { text = text; is_text = is_text; listings = listings; means = means; line = line; shows = shows; written = written; hands = hands })
handed_gives (example size) before after text listings line handed.Whole export is_text means shows written hands =
    record { text = text; is_text = is_text; listings = listings; means = means; line = line; shows = shows; written = written; hands = hands }
handed_gives (example size) before after text listings line handed.Spoiled export is_text means shows written hands =
    inr (record { text = text; is_text = is_text; listings = listings; means = means; line = line; shows = shows; written = written; hands = hands })
handed_gives (example size) before after text listings line handed.Memory export is_text means shows written hands =
    inr (record { text = text; is_text = is_text; listings = listings; means = means; line = line; shows = shows; written = written; hands = hands })

-- what the text means was exported, as far as it went
export_gives : (ask : Ask) (before after : Scene) (text : List ℕ) (listings : List Listing) (line : List ℕ) (result : Status) → IsExport ask
    → IsTextOf ask before.folder.files text → Means before.folder.files text listings → Shows ask listings line
    → Stage (files_of listings) line before.out after.out (kept_outlets ask before.outlets) after.outlets result
    → RunGives (Some ask) before after result
export_gives ask before after text listings line _ export is_text means shows (no_room out outlets) = inl (record {
  out = out;
  spoiled = ap (λ (o : Outlets). o.spoiled) outlets;
  exporters = inr (ap (λ (o : Outlets). o.exporters) outlets);
})
export_gives ask before after text listings line _ export is_text means shows (no_sink loses outlets) = inl (record {
  wanted = status.Ok;
  line = line;
  due = record { text = text; is_text = is_text; listings = listings; means = means; shows = shows };
  loses = loses;
  keeps = record { exporters = ap (λ (o : Outlets). o.exporters) outlets; spoiled = ap (λ (o : Outlets). o.spoiled) outlets };
})
export_gives ask before after text listings line _ export is_text means shows (handed_over ended written hands) =
    handed_gives ask before after text listings line ended export is_text means shows written hands

-- the answer to a question was written
answered_gives : (file name left right : List ℕ) (depth : ℕ) (before after : Scene) (text : List ℕ) (listings : List Listing) (wanted result : Status) (line : List ℕ)
    → IsTextOf (explain file name left right depth) before.folder.files text → Means before.folder.files text listings → IsReply name left right listings wanted line
    → Tells wanted result before.out after.out line → KeepsAll (Some (explain file name left right depth)) before.outlets after.outlets
    → RunGives (Some (explain file name left right depth)) before after result
answered_gives file name left right depth before after text listings status.Ok result line is_text means reply tells keeps =
    told_gives _ (Some (explain file name left right depth)) before after status.Ok result line refl tells
    (record { text = text; is_text = is_text; listings = listings; means = means; shows = reply }) keeps (λ w. w)
answered_gives file name left right depth before after text listings status.Refused result line is_text means reply tells keeps =
    told_gives _ (Some (explain file name left right depth)) before after status.Refused result line refl tells
    (inr (record { text = text; is_text = is_text; listings = listings; means = means; says = reply })) keeps (λ w. w)
answered_gives file name left right depth before after text listings status.Usage result line is_text means reply tells keeps = absurd reply
answered_gives file name left right depth before after text listings status.Read result line is_text means reply tells keeps = absurd reply
answered_gives file name left right depth before after text listings status.Write result line is_text means reply tells keeps = absurd reply
answered_gives file name left right depth before after text listings status.Memory result line is_text means reply tells keeps = absurd reply

reply_gives : (file name left right : List ℕ) (depth : ℕ) (before after : Scene) (text : List ℕ) (listings : List Listing) (result : Status)
    → IsTextOf (explain file name left right depth) before.folder.files text → Means before.folder.files text listings
    → Replied (IsReply name left right listings) before.out after.out result → after.outlets ≡ before.outlets
    → RunGives (Some (explain file name left right depth)) before after result
reply_gives file name left right depth before after text listings result is_text means (was_told wanted line reply tells) outlets =
    answered_gives file name left right depth before after text listings wanted result line is_text means reply tells
    (record { exporters = ap (λ (o : Outlets). o.exporters) outlets; spoiled = ap (λ (o : Outlets). o.spoiled) outlets })
reply_gives file name left right depth before after text listings result is_text means (no_memory is out) outlets =
    rw is (inl (record {
      out = out;
      spoiled = ap (λ (o : Outlets). o.spoiled) outlets;
      exporters = inl (ap (λ (o : Outlets). o.exporters) outlets);
    }))

-- what the text means was published
publish_gives : (ask : Ask) (before after : Scene) (text : List ℕ) (listings : List Listing) (result : Status)
    → IsTextOf ask before.folder.files text → Means before.folder.files text listings
    → Publishes ask listings before.out after.out (kept_outlets ask before.outlets) after.outlets result
    → RunGives (Some ask) before after result
publish_gives (run file depth only) before after text listings result is_text means stage =
    export_gives (run file depth only) before after text listings (transcripts_of listings) result tt is_text means refl stage
publish_gives (example size) before after text listings result is_text means stage =
    export_gives (example size) before after text listings (summary_of listings) result tt is_text means refl stage
publish_gives (explain file name left right depth) before after text listings result is_text means (replied, outlets) =
    reply_gives file name left right depth before after text listings result is_text means replied outlets

-- the instances that the accepted text means were published
pub instances_give : (asked : Option Ask) (ask : Ask) (before after : Scene) (text : List ℕ) (listings slice : List Listing) (result : Status)
    (outlets : Outlets) → Some ask ≡ asked → IsTextOf ask before.folder.files text → Means before.folder.files text listings → slice ≡ listings
    → Publishes ask slice before.out after.out outlets after.outlets result
    → outlets.exporters ≡ kept_of (Some ask) before.outlets.exporters → outlets.spoiled ≡ before.outlets.spoiled
    → RunGives asked before after result
instances_give asked ask before after text listings slice result outlets is is_text means same publishes exporters spoiled =
    rw (← is) (publish_gives ask before after text listings result is_text means (rw (← same, ← exporters, ← spoiled) publishes))

module _ {B : Type 0} where
  -- the files were handed over, after room was made
  pub handed_after : (account : B → Account) (files : Files) (transcript : List ℕ) (out new_out : Drain)
      (exporters new_exporters spoiled roomy new_spoiled : List B) (ended : Handed)
      → roomy ≡ spoiled → Appends out.held new_out.held transcript
      → HandsOver files (map account exporters) (map account new_exporters) (map account roomy) (map account new_spoiled) ended
      → Stage files transcript out new_out (record { exporters = map account exporters; spoiled = map account spoiled })
      (record { exporters = map account new_exporters; spoiled = map account new_spoiled }) (status_of ended)
  handed_after account files transcript out new_out exporters new_exporters spoiled roomy new_spoiled ended is written hands =
      handed_over ended written (rw (← is) hands)

-- What is told, by the status that is wanted.
use Rattle.std.proofs.Common.{◌≡◌, ℕ, List, Option, Some, None, Result, Ok, Err, IfOk, ap, sym, ◌∙◌, subst, inl, inr}
use Rattle.std.specs.Prelude.{option_map}
use Rattle.std.specs.declared.alloc.AllocError.{AllocError}
use Rattle.cq_asked.specs.Asked.{file_asked}
use Rattle.cq_io.specs.FolderData.{FolderData}
use Rattle.cq_io.specs.Writes.{Appends}
use Rattle.cq_run.specs.Scene.{Drain}
use Rattle.cq_run.specs.Writing.{Tells as TellsLine}
use Rattle.cq_run.specs.declared.status.Status.{Status}
use Rattle.cq_run.specs.declared.status.Status.TheVariants as status
use Rattle.cq_words.specs.Ask.{Ask, run, example, explain}
use Rattle.cq_words.specs.Reads.{reads}
use Rattle.cq_why.specs.Clause.{BeginsWithLine, HasToTell, Ran, WhyGives}
use Rattle.cq_why.specs.Replies.{GoesOn, SaysOk}
use Rattle.cq_why.specs.declared.reply.Reply.{Reply}

-- what is due was written
written_gives : (ask : Option Ask) (folder : FolderData) (before after : Drain) (wanted : Status) (text : List ℕ)
    → HasToTell ask folder wanted text → Appends before.held after.held text → WhyGives ask folder before after wanted
written_gives ask folder before after status.Ok text due written = record { text = text; due = due; written = written }
written_gives ask folder before after status.Refused text due written = record { text = text; due = due; written = written }
written_gives ask folder before after status.Usage text due written = record { text = text; due = due; written = written }
written_gives ask folder before after status.Read text due written = record { text = text; due = due; written = written }
written_gives ask folder before after status.Write text due written = absurd due
written_gives ask folder before after status.Memory text due written = absurd due

-- what is due was told, or the sink failed
pub told_gives : (ask : Option Ask) (folder : FolderData) (before after : Drain) (wanted result : Status) (text slice : List ℕ)
    → HasToTell ask folder wanted text → slice ≡ text → TellsLine wanted result before after slice → WhyGives ask folder before after result
told_gives ask folder before after wanted result text slice due same tells =
    let due_slice : HasToTell ask folder wanted slice = subst (HasToTell ask folder wanted) (sym same) due in
    elim tells [
      | inl h ↦ subst (WhyGives ask folder before after) (sym h.0) (written_gives ask folder before after wanted slice due_slice h.1)
      | inr h ↦ subst (WhyGives ask folder before after) (sym h.0) (record { wanted = wanted; text = slice; due = due_slice; loses = h.1 })
    ]

-- words by which no file is found
pub no_file : {A : Type 0} (view : A → List ℕ × ℕ) (found : Option A) (slice words : List (List ℕ)) → found ≡ None
    → option_map view found ≡ file_asked (reads slice) → slice ≡ words → file_asked (reads words) ≡ None
no_file view found slice words none asked same =
    ap (λ (w : List (List ℕ)). file_asked (reads w)) (sym same) ∙ sym asked ∙ ap (option_map view) none

-- the words of such a run
asks_run : (ask : Option Ask) (file : List ℕ) (depth : ℕ) → file_asked ask ≡ Some (file, depth) → ask ≡ Some (run file depth None)
asks_run (Some (run name deep None)) file depth is =
    let there : List ℕ × ℕ = (name, deep) in
    let wanted : List ℕ × ℕ = (file, depth) in
    let same : there ≡ wanted = cc in
    λ i. Some (run (same i).0 (same i).1 None)
asks_run (Some (run name deep (Some only))) file depth is = absurd (cc is)
asks_run (Some (example size)) file depth is = absurd (cc is)
asks_run (Some (explain name instance left right deep)) file depth is = absurd (cc is)
asks_run None file depth is = absurd (cc is)

pub asks_file : {A : Type 0} (view : A → List ℕ × ℕ) (found : Option A) (slice words : List (List ℕ)) (a : A) → found ≡ Some a
    → option_map view found ≡ file_asked (reads slice) → slice ≡ words → reads words ≡ Some (run (view a).0 (view a).1 None)
asks_file view found slice words a some asked same =
    let here : file_asked (reads slice) ≡ Some ((view a).0, (view a).1) = sym asked ∙ ap (option_map view) some in
    ap reads (sym same) ∙ asks_run (reads slice) (view a).0 (view a).1 here

-- a run that accepts
pub accepted_tells : (ask : Option Ask) (folder : FolderData) (ended : Status) (line : List ℕ) (result : Result Reply AllocError)
    → ended ≡ status.Ok → Ran ask folder ended line → IfOk result SaysOk
    → IfOk result (λ reply. HasToTell ask folder reply.status reply.text.items)
accepted_tells ask folder ended line (Ok reply) is ran says =
    let said : HasToTell ask folder status.Ok reply.text.items = record {
      transcripts = line;
      ran = subst (λ (s : Status). Ran ask folder s line) is ran;
      text_is = says.text_is;
    } in
    subst (λ (s : Status). HasToTell ask folder s reply.text.items) (sym says.status_is) said
accepted_tells ask folder ended line (Err e) is ran says = tt

-- a line that is gone on with
begins : (ask : Option Ask) (folder : FolderData) (ended wanted : Status) (line : List ℕ) (reply : Reply)
    → ended ≡ wanted → Ran ask folder ended line → GoesOn wanted line reply → BeginsWithLine ask folder wanted reply.text.items
begins ask folder ended wanted line reply is ran says = record {
  line = line;
  ran = subst (λ (s : Status). Ran ask folder s line) is ran;
  rest = says.rest;
  text_is = says.text_is;
}

pub refused_tells : (ask : Option Ask) (folder : FolderData) (ended : Status) (line : List ℕ) (result : Result Reply AllocError)
    → ended ≡ status.Refused → Ran ask folder ended line → IfOk result (GoesOn status.Refused line)
    → IfOk result (λ reply. HasToTell ask folder reply.status reply.text.items)
refused_tells ask folder ended line (Ok reply) is ran says =
    subst (λ (s : Status). HasToTell ask folder s reply.text.items) (sym says.status_is) (begins ask folder ended status.Refused line reply is ran says)
refused_tells ask folder ended line (Err e) is ran says = tt

pub unread_tells : (ask : Option Ask) (folder : FolderData) (ended : Status) (line : List ℕ) (result : Result Reply AllocError)
    → ended ≡ status.Read → Ran ask folder ended line → IfOk result (GoesOn status.Read line)
    → IfOk result (λ reply. HasToTell ask folder reply.status reply.text.items)
unread_tells ask folder ended line (Ok reply) is ran says =
    subst (λ (s : Status). HasToTell ask folder s reply.text.items) (sym says.status_is) (begins ask folder ended status.Read line reply is ran says)
unread_tells ask folder ended line (Err e) is ran says = tt

-- A run that can succeed does, unless memory is wanting.
use Rattle.std.proofs.Common.{◌≡◌, ◌⊎◌, ◌<◌, ◌≤◌, inl, inr, ℕ, Bool, List, [], ◌∷◌, Option, Some, None, true, false, refl, sym, subst, ◌∙◌, filter, length, arith, cond}
use Rattle.cq_export.specs.Files.{Files}
use Rattle.cq_export.specs.Handing.{Hands, nobody, took, failed}
use Rattle.cq_export.specs.declared.handing.Handed.TheVariants as handed
use Rattle.cq_io.specs.Account.{Account}
use Rattle.cq_io.specs.declared.format.Format.{Format}
use Rattle.cq_io.specs.Content.{File, find_file}
use Rattle.cq_io.specs.Writes.{LacksRoom}
use Rattle.cq_io.specs.FolderData.{FolderData}
use Rattle.cq_program.proofs.Breaches.{means_is_there}
use Rattle.cq_program.specs.Folders.{Raised, Told}
use Rattle.cq_program.specs.Program as program
use Rattle.cq_program.specs.Program.{Lacks, Listing}
use Rattle.cq_environment.specs.declared.refusal.ReadCause.{ReadCause}
use Rattle.cq_environment.specs.declared.refusal.ReadCause.TheVariants.{Absent, TooLong, Failed}
use Rattle.cq_run.proofs.OneTranscript.{one_tree}
use Rattle.cq_run.specs.Ask.{depth_asked, only_asked}
use Rattle.cq_run.specs.Choice.{is_of, kept_by}
use Rattle.cq_run.specs.Clause.{AreSteady, CanSucceed, Exports, ExportsSome, FailsToWrite, HasRoom, HasText, HasToWrite, IsCauseOf, IsRefusedLine, IsTextIn, IsTextOf, IsToldWithin, IsUnread, IsUnreadLine, LacksAnswer, LacksText, RunGives, Succeeds, TakesAll, file_limit}
use Rattle.cq_run.specs.Meaning.{IsAcceptable, IsTreeOf, Means, MissesFile}
use Rattle.cq_run.specs.Scene.{Scene}
use Rattle.cq_run.specs.declared.status.Status.{Status}
use Rattle.cq_run.specs.declared.status.Status.TheVariants as status
use Rattle.cq_syntax.specs.declared.program.Program.{Program}
use Rattle.cq_words.specs.Ask.{Ask, run, example, explain}

-- steady exporters don't fail
hands_steady : (files : Files) (asked done moved : List Account) → Hands files asked done moved → AreSteady asked → moved ≡ []
hands_steady files _ _ _ nobody steady = refl
hands_steady files _ _ _ (took before now rest done moved takes hands) steady = hands_steady files rest done moved hands steady.1
hands_steady files _ _ _ (failed before now rest done moved fails hands) steady =
    let sure = steady.0 in
    let unsure = fails.unsteady in
    cc

filter_steady : (keeps : Account → Bool) (exporters : List Account) → AreSteady exporters → AreSteady (filter keeps exporters)
filter_steady keeps [] steady = tt
filter_steady keeps (e ∷ es) steady = pick (keeps e) steady.0 (filter_steady keeps es steady.1)
  where
    pick : (b : Bool) → e.steady ≡ true → AreSteady (filter keeps es) → AreSteady (cond b (e ∷ filter keeps es) (filter keeps es))
    pick true one rest = (one, rest)
    pick false one rest = rest

kept_steady : (only : Option Format) (exporters : List Account) → AreSteady exporters → AreSteady (kept_by only exporters)
kept_steady None exporters steady = steady
kept_steady (Some format) exporters steady = filter_steady (is_of format) exporters steady

-- a file has one text
one_file : (file : List ℕ) (told : Told) (text other : List ℕ) → IsToldWithin file told text → IsTextIn file told other → other ≡ text
one_file file None text other there is =
    let tells = there.tells in
    cc
one_file file (Some files) text other there is =
    let tells = there.tells in
    let found = there.found in
    let same = is.found in
    cc

-- a run has one text
one_text : (ask : Ask) (told : Told) (text other : List ℕ) → HasText ask told text → IsTextOf ask told other → other ≡ text
one_text (run file depth only) told text other there is = one_file file told text other there is
one_text (example size) told text other there is = is ∙ sym there.is_text
one_text (explain file instance left right depth) told text other there is = one_file file told text other there is

-- the files are told
tells_files : (ask : Ask) (told : Told) (text : List ℕ) → HasText ask told text → (files : List File) × (told ≡ Some files)
tells_files (run file depth only) told text there = (there.files, there.tells)
tells_files (example size) told text there = (there.files, there.tells)
tells_files (explain file instance left right depth) told text there = (there.files, there.tells)

-- a file that is there and can be read has no cause to be unread
file_not_unread : (file : List ℕ) (before after : FolderData) (text line : List ℕ) → IsToldWithin file before.files text → before.steady ≡ true
    → IsUnread file before after line → ⊥
file_not_unread file before after text line there steady unread = by_cause unread.cause unread.holds unread.raised
  where
    by_cause : (cause : ReadCause) → IsCauseOf cause file before.files → Raised cause before after → ⊥
    by_cause Absent holds raised =
        let none : find_file file there.files ≡ None = rw there.tells at holds in
        let found = there.found in
        cc
    by_cause TooLong holds raised =
        let longer = rw there.tells at holds in
        let same : Some longer.content ≡ Some text = sym longer.found ∙ there.found in
        let content_is : longer.content ≡ text = cc in
        let over : file_limit < length text = rw content_is at longer.longer in
        let short = there.short in
        absurd (omega arith)
    by_cause Failed holds raised =
        let unsure = raised.1 in
        cc

not_unread : (ask : Ask) (before after : FolderData) (text line : List ℕ) → HasText ask before.files text → before.steady ≡ true
    → LacksText ask before after line → ⊥
not_unread (example size) before after text line there steady unread = unread
not_unread (run file depth only) before after text line there steady unread = file_not_unread file before after text line there steady unread
not_unread (explain file instance left right depth) before after text line there steady unread = file_not_unread file before after text line there steady unread

-- a steady folder has the files of a program that has a meaning over them
not_missed : (files : List File) (before after : FolderData) (tree : Program) (L : List Listing) (line : List ℕ) → before.files ≡ Some files
    → before.steady ≡ true → program.Means before.files tree L → MissesFile before after tree line → ⊥
not_missed files before after tree L line told steady means misses =
    let over : program.Means (Some files) tree L = subst (λ (t : Told). program.Means t tree L) told means in
    let lacks : Lacks (Some files) tree misses.file misses.cause = subst (λ (t : Told). Lacks t tree misses.file misses.cause) told misses.lacks in
    let failed : misses.cause ≡ Failed = means_is_there files tree L misses.file misses.cause over lacks in
    let raised : Raised Failed before after = subst (λ (cause : ReadCause). Raised cause before after) failed misses.raised in
    let unsure = raised.1 in
    cc

-- where a run can succeed, its file and the files of its program are read
not_lacking : (ask : Ask) (before after : FolderData) (text line : List ℕ) → HasText ask before.files text → before.steady ≡ true
    → IsAcceptable (depth_asked ask) before.files text → IsUnreadLine ask before after line → ⊥
unfolding IsAcceptable
not_lacking ask before after text line there steady acceptable (inl unread) = not_unread ask before after text line there steady unread
not_lacking ask before after text line there steady acceptable (inr lacks) =
    let told = tells_files ask before.files text there in
    let same : lacks.text ≡ text = one_text ask before.files text lacks.text there lacks.is_text in
    let is_tree : IsTreeOf text lacks.tree = subst (λ (t : List ℕ). IsTreeOf t lacks.tree) same lacks.is_tree in
    let trees : lacks.tree ≡ acceptable.0 = one_tree text lacks.tree acceptable.0 is_tree acceptable.1 in
    let misses : MissesFile before after acceptable.0 line = subst (λ (tree : Program). MissesFile before after tree line) trees lacks.misses in
    not_missed told.0 before after acceptable.0 acceptable.2.listings line told.1 steady acceptable.2.means misses

-- a write that fits doesn't fail
no_loss : (spare : Option ℕ) (room : ℕ) (bytes : List ℕ) → spare ≡ Some room → length bytes ≤ room → LacksRoom spare bytes → ⊥
no_loss spare room bytes is fits lacks =
    let short : room < length bytes = rw is at lacks in
    absurd (omega arith)

-- what a run has to write fits, where there is room for it
fits_due : (ask : Ask) (before after : FolderData) (text line : List ℕ) (spare : Option ℕ) (wanted : Status) → HasText ask before.files text
    → before.steady ≡ true → IsAcceptable (depth_asked ask) before.files text → ((line : List ℕ) → LacksAnswer ask before.files line → ⊥)
    → (takes : HasRoom ask before.files spare text) → HasToWrite (Some ask) before after wanted line → length line ≤ takes.room
fits_due ask before after text line spare status.Ok there steady acceptable answered takes due =
    let same = one_text ask before.files text due.text there due.is_text in
    let means : Means before.files text due.listings = subst (λ (t : List ℕ). Means before.files t due.listings) same due.means in
    takes.fits due.listings line means due.shows
fits_due ask before after text line spare status.Refused there steady acceptable answered takes (inl due) =
    let same = one_text ask before.files text due.text there due.is_text in
    absurd (due.other (subst (IsAcceptable (depth_asked ask) before.files) (sym same) acceptable))
fits_due ask before after text line spare status.Refused there steady acceptable answered takes (inr due) = absurd (answered line due)
fits_due ask before after text line spare status.Read there steady acceptable answered takes due =
    absurd (not_lacking ask before after text line there steady acceptable due)
fits_due ask before after text line spare status.Usage there steady acceptable answered takes due = absurd due
fits_due ask before after text line spare status.Write there steady acceptable answered takes due = absurd due
fits_due ask before after text line spare status.Memory there steady acceptable answered takes due = absurd due

-- where a run can succeed, so far as it is known before it
pub record IsReady (ask : Ask) (before after : Scene) (text : List ℕ) : Type 0 where
  pub there : HasText ask before.folder.files text
  pub steady : before.folder.steady ≡ true
  pub acceptable : IsAcceptable (depth_asked ask) before.folder.files text
  pub answered : (line : List ℕ) → LacksAnswer ask before.folder.files line → ⊥
  pub takes : TakesAll ask text before after
  pub exporters : AreSteady before.outlets.exporters

lost_room : (ask : Ask) (before after : Scene) (text : List ℕ) → IsReady ask before after text → HasRoom ask before.folder.files before.out.spare text
    → FailsToWrite (Some ask) before after → ⊥
lost_room ask before after text ready takes fails =
    no_loss before.out.spare takes.room fails.line takes.tells
    (fits_due ask before.folder after.folder text fails.line before.out.spare fails.wanted ready.there ready.steady ready.acceptable ready.answered takes fails.due)
    fails.loses.no_room

not_written : (ask : Ask) (before after : Scene) (text : List ℕ) → IsReady ask before after text → FailsToWrite (Some ask) before after → ⊥
not_written (run file depth only) before after text ready fails = lost_room (run file depth only) before after text ready ready.takes fails
not_written (example size) before after text ready fails = lost_room (example size) before after text ready ready.takes fails
not_written (explain file instance left right depth) before after text ready fails = ready.takes fails.loses.cause

hands_all : (ask : Ask) (before after : Scene) → AreSteady before.outlets.exporters → Exports ask before after handed.Spoiled → ⊥
hands_all ask before after steady exports =
    let some = exports.hands.some in
    let none = hands_steady _ _ _ _ exports.hands.hands (kept_steady (only_asked ask) before.outlets.exporters steady) in
    let zero : 0 < 0 = rw none at some in
    absurd (omega arith)

not_exported : (ask : Ask) (before after : Scene) → AreSteady before.outlets.exporters → ExportsSome (Some ask) before after handed.Spoiled → ⊥
not_exported (run file depth only) before after steady exports = hands_all (run file depth only) before after steady exports
not_exported (example size) before after steady exports = hands_all (example size) before after steady exports
not_exported (explain file instance left right depth) before after steady exports = exports

-- a run that can succeed does, or has no memory
completes : (ask : Ask) (before after : Scene) (text : List ℕ) (result : Status) → IsReady ask before after text
    → RunGives (Some ask) before after result → (result ≡ status.Ok) ⊎ (result ≡ status.Memory)
completes ask before after text status.Ok ready gives = inl refl
completes ask before after text status.Memory ready gives = inr refl
completes ask before after text status.Usage ready gives = absurd gives.due
completes ask before after text status.Refused ready gives = absurd (not_refused gives.due)
  where
    not_refused : IsRefusedLine ask before.folder.files gives.line → ⊥
    not_refused (inl due) =
        let same = one_text ask before.folder.files text due.text ready.there due.is_text in
        due.other (subst (IsAcceptable (depth_asked ask) before.folder.files) (sym same) ready.acceptable)
    not_refused (inr due) = ready.answered gives.line due
completes ask before after text status.Read ready gives =
    absurd (not_lacking ask before.folder after.folder text gives.line ready.there ready.steady ready.acceptable gives.due)
completes ask before after text status.Write ready (inl fails) = absurd (not_written ask before after text ready fails)
completes ask before after text status.Write ready (inr exports) = absurd (not_exported ask before after ready.exporters exports)

ready_of : (ask : Ask) (before after : Scene) (can : CanSucceed (Some ask) before after) → can.wanted ≡ ask → IsReady ask before after can.text
ready_of ask before after can is = subst (λ (a : Ask). IsReady a before after can.text) is (record {
  there = can.there;
  steady = can.folder;
  acceptable = can.acceptable;
  answered = can.answered;
  takes = can.takes;
  exporters = can.exporters;
})

pub run_completes : (ask : Option Ask) (before after : Scene) (result : Status) → RunGives ask before after result → Succeeds ask before after result
run_completes None before after result gives can =
    let bad = can.asked in
    cc
run_completes (Some ask) before after result gives can =
    let same = can.asked in
    let is : can.wanted ≡ ask = cc in
    completes ask before after can.text result (ready_of ask before after can is) gives

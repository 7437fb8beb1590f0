-- What a folder presents, from the files that were read.
use Rattle.std.proofs.Common.{ℕ, zero, suc, Bool, true, false, List, [], ◌∷◌, ◌++◌, ◌+◌, ◌<◌, ◌≤◌, ◌≡◌, ◌⊎◌, Option, Some, None, Result, Ok, Err, inl, inr, length, map, get_or, refl, sym, ap, subst, ◌∙◌, arith}
use Rattle.std.specs.Prelude.{IfSome, IfOk, OnOk, IfErr, nat_lt, if◌then◌else◌, unwrap_or, string_bytes, slice_get}
use Rattle.std.specs.List.{range_with_len}
use Rattle.std.proofs.lemmas.Bool.{cases_eq}
use Rattle.std.proofs.lemmas.Bool.Decides.{nat_tests}
use Rattle.std.proofs.lemmas.List.{get_or-map, length-map, map-append}
use Rattle.std.proofs.lemmas.List.FromFn.{fill_by_all}
use Rattle.cq_base.specs.declared.name.Name.{Name}
use Rattle.cq_io.specs.Content.{File, find_file}
use Rattle.cq_io.specs.Reads.{IsLonger}
use Rattle.cq_theory.specs.declared.presentation.Presentation.{Presentation}
use Rattle.cq_theory.specs.Canonical.{below}
use Rattle.cq_theory.specs.SchemaData.{SchemaData as Schema}
use Rattle.cq_import.specs.declared.entity_file.EntityFile.{EntityFile}
use Rattle.cq_import.specs.declared.refusal.CsvRefusal.{CsvRefusal}
use Rattle.cq_import.specs.declared.refusal.CsvRefusal.TheVariants as refusal
use Rattle.cq_import.specs.Cells.{Sheet}
use Rattle.cq_import.specs.Columns.{header}
use Rattle.cq_import.specs.Context.{sheet_in}
use Rattle.cq_import.specs.Faults.{Fault, Absent, TooLong, Tells, first_fault, or_else, told}
use Rattle.cq_import.specs.Folders.{AreRead, IsRead, IsRefused, IsUnread, IsWrong, name_of}
use Rattle.cq_import.specs.Imports.{IsImport, IsNext, fault_of, file_fault, files_fault, imported, most_bytes, presented, reading_fault, sheet_of, sheets_fault, sheets_of}
use Rattle.cq_import.specs.Records.{records_of}
use Rattle.cq_import.specs.Rows.{rows_of, sheet_fault}
use Rattle.cq_import.proofs.Faulty.{after_none, both_none, first_fault-append, refuses_after, refuses_same}
use Rattle.cq_import.proofs.FolderReads.{NoRead, NotReading, sheet_no_read, told_no_read}
use Rattle.cq_import.proofs.Named.{range_more}

pub not_longer : (m n : ℕ) → n ≤ m → nat_lt m n ≡ false
not_longer m n h = grind (arith, nat_tests)

pub longer : (m n : ℕ) → m < n → nat_lt m n ≡ true
longer m n h = grind (arith, nat_tests)

pub if_false : (f : Fault) (b : Bool) → b ≡ false → (if b then Some f else None) ≡ None
if_false f true e = cc e
if_false f false e = refl

pub if_true : (f : Fault) (b : Bool) → b ≡ true → (if b then Some f else None) ≡ Some f
if_true f true e = refl
if_true f false e = cc e

or_nothing : (f : Option Fault) → or_else f None ≡ f
or_nothing None = refl
or_nothing (Some f) = refl

-- some item of a list at a place
pub item_at : (made : List EntityFile) (k : ℕ) → k < length made → EntityFile
item_at [] k within = absurd (omega arith)
item_at (x ∷ xs) zero within = x
item_at (x ∷ xs) (suc k) within = item_at xs k (omega arith)

module _ (files : List File) (dir : Name) (S : Schema) where
  abbrev pub fault_at : Option (List ℕ) → ℕ → Option Fault
  fault_at o entity = or_else (reading_fault (name_of dir S entity) o) (sheet_fault (name_of dir S entity) (header S entity) (records_of (unwrap_or o [])))

  pub read_passes : (entity : ℕ) (file : EntityFile) → IsRead dir S (Some files) entity file → file_fault files dir S entity ≡ None
  read_passes entity file read =
      ap (λ o. fault_at o entity) read.found ∙ both_none _ _ (if_false _ _ (not_longer most_bytes (length file.text.items) read.short)) read.passed

  sheet_same : (entity : ℕ) (file : EntityFile) → IsRead dir S (Some files) entity file → sheet_in file ≡ sheet_of files dir S entity
  sheet_same entity file read = λ i. record { file = read.named i; rows = ap (λ o. rows_of (unwrap_or o [])) (sym read.found) i }

  -- one entity more
  fault_more : (n : ℕ) → files_fault files dir S (suc n) ≡ or_else (files_fault files dir S n) (file_fault files dir S n)
  fault_more n =
      let g = file_fault files dir S in
      let here : 0 + n ≡ n = omega arith in
      ap (λ l. first_fault (map g l)) (range_more 0 n ∙ ap (λ m. below n ++ m ∷ []) here)
      ∙ ap first_fault (map-append g (below n) (n ∷ []))
      ∙ first_fault-append (map g (below n)) (g n ∷ [])
      ∙ ap (or_else (files_fault files dir S n)) (or_nothing (g n))

  pub files_pass : (n : ℕ) → ((e : ℕ) → e < n → file_fault files dir S e ≡ None) → files_fault files dir S n ≡ None
  files_pass zero each = refl
  files_pass (suc n) each = fault_more n ∙ both_none _ _ (files_pass n (λ e less. each e (omega arith))) (each n (omega arith))

  pub files_stop : (n k : ℕ) (f : Fault) → k < n → files_fault files dir S k ≡ None → file_fault files dir S k ≡ Some f → files_fault files dir S n ≡ Some f
  files_stop zero k f less passed fault = absurd (omega arith)
  files_stop (suc n) k f less passed fault = elim (cases_eq k n) [
    | inl same ↦ fault_more n ∙ after_none _ _ (subst (λ m. files_fault files dir S m ≡ None) same passed) ∙ subst (λ m. file_fault files dir S m ≡ Some f) same fault
    | inr other ↦ fault_more n ∙ ap (λ o. or_else o (file_fault files dir S n)) (files_stop n k f (omega arith) passed fault)
  ]

  module _ (made : List EntityFile) (read : AreRead dir S (Some files) made) where
    pub made_pass : files_fault files dir S (length made) ≡ None
    made_pass = files_pass (length made) (λ e less. let d = item_at made e less in read_passes e (get_or made e d) (read e d less))

    pub sheets_are : (few : length made ≡ length S.entities) → sheets_of files dir S ≡ map sheet_in made
    sheets_are few =
        let none : Sheet = record { file = []; rows = [] } in
        sym (fill_by_all (sheet_of files dir S) (map sheet_in made) (length S.entities) none (length-map made sheet_in ∙ few)
        (λ k less.
        let within : k < length made = omega arith in
        let d = item_at made k within in
        get_or-map sheet_in made k d none within ∙ sheet_same k (get_or made k d) (read k d within)))

  other_import : (r : CsvRefusal) → NotReading (told r) → Tells r (fault_of files dir S) → IsImport files dir S (Err r)
  other_import (refusal.Absent file) none refuses = absurd none
  other_import (refusal.ReadFault file) none refuses = absurd none
  other_import (refusal.TooLong file) none refuses = absurd none
  other_import (refusal.NotCsv file n) none (inl memory) = cc memory
  other_import (refusal.NotCsv file n) none (inr is) = is
  other_import (refusal.BadHeader file) none (inl memory) = cc memory
  other_import (refusal.BadHeader file) none (inr is) = is
  other_import (refusal.BadCell file n k) none (inl memory) = cc memory
  other_import (refusal.BadCell file n k) none (inr is) = is
  other_import (refusal.DoubleId file n) none (inl memory) = cc memory
  other_import (refusal.DoubleId file n) none (inr is) = is
  other_import (refusal.NoSuchId file n k) none (inl memory) = cc memory
  other_import (refusal.NoSuchId file n k) none (inr is) = is
  other_import refusal.TooLarge none (inl memory) = cc memory
  other_import refusal.TooLarge none (inr is) = is
  other_import refusal.Memory none refuses = tt

  -- the answer where all files are read and pass
  pub answered : (made : List EntityFile) → AreRead dir S (Some files) made → length made ≡ length S.entities → (result : Result Presentation CsvRefusal)
      → OnOk result (sheets_fault S (map sheet_in made) ≡ None) → IfOk result (λ p. p ≡ presented S (map sheet_in made)) → IfErr result (λ r. Tells r (sheets_fault S (map sheet_in made)))
      → NoRead (sheets_fault S (map sheet_in made)) → IsImport files dir S result
  answered made read few (Ok p) passed is refused other =
      let same = sheets_are made read few in
      let all = subst (λ n. files_fault files dir S n ≡ None) few (made_pass made read) in
      (both_none _ _ all (ap (sheets_fault S) same ∙ passed), is ∙ ap (presented S) (sym same))
  answered made read few (Err r) passed is refused other =
      let same = sheets_are made read few in
      let all = subst (λ n. files_fault files dir S n ≡ None) few (made_pass made read) in
      other_import r (told_no_read r _ refused other) (refuses_after r _ _ all (refuses_same r _ _ (ap (sheets_fault S) (sym same)) refused))

  -- the answer where reading stops at an entity
  module _ (k : ℕ) (less : k < length S.entities) (passed : files_fault files dir S k ≡ None) where
    first_here : (f : Fault) → file_fault files dir S k ≡ Some f → fault_of files dir S ≡ Some f
    first_here f is = ap (λ o. or_else o (sheets_fault S (sheets_of files dir S))) (files_stop (length S.entities) k f less passed is)

    pub unread_stops : (r : CsvRefusal) → IsUnread (Some files) (name_of dir S k) r → IsImport files dir S (Err r)
    unread_stops (refusal.Absent file) unread = first_here _ (ap (λ o. fault_at o k) unread.1) ∙ ap (λ n. Some (Absent n)) (sym unread.0)
    unread_stops (refusal.TooLong file) unread =
        let long = unread.1 in
        first_here (TooLong (name_of dir S k))
        (ap (λ o. fault_at o k) long.found ∙ ap (λ o. or_else o (sheet_fault (name_of dir S k) (header S k) (records_of long.content))) (if_true (TooLong (name_of dir S k)) _ (longer most_bytes (length long.content) long.longer)))
        ∙ ap (λ n. Some (TooLong n)) (sym unread.0)
    unread_stops (refusal.ReadFault file) unread = record { entity = k; within = less; named = sym unread; passed = passed }
    unread_stops refusal.Memory unread = tt
    unread_stops (refusal.NotCsv file n) unread = absurd unread
    unread_stops (refusal.BadHeader file) unread = absurd unread
    unread_stops (refusal.BadCell file n c) unread = absurd unread
    unread_stops (refusal.DoubleId file n) unread = absurd unread
    unread_stops (refusal.NoSuchId file n c) unread = absurd unread
    unread_stops refusal.TooLarge unread = absurd unread

    pub wrong_stops : (r : CsvRefusal) → IsWrong dir S (Some files) k r → IsImport files dir S (Err r)
    wrong_stops r wrong =
        let other = told_no_read r _ wrong.refuses (sheet_no_read (name_of dir S k) (header S k) (records_of wrong.text)) in
        let here : (f : Fault) → sheet_fault (name_of dir S k) (header S k) (records_of wrong.text) ≡ Some f → fault_of files dir S ≡ Some f = λ f is.
        first_here f (ap (λ o. fault_at o k) wrong.found ∙ after_none _ _ (if_false _ _ (not_longer most_bytes (length wrong.text) wrong.short)) ∙ is) in
        other_import r other (elim wrong.refuses [ inl memory ↦ inl memory | inr is ↦ inr (here (told r) is) ])

  pub stopped : (made : List EntityFile) → AreRead dir S (Some files) made → length made < length S.entities → (r : CsvRefusal) → IsRefused dir S (Some files) (length made) r
      → IsImport files dir S (Err r)
  stopped made read less r (inl unread) = unread_stops (length made) less (made_pass made read) r unread
  stopped made read less r (inr wrong) = wrong_stops (length made) less (made_pass made read) r wrong

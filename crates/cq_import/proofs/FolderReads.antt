-- Files that are read one after the other.
use Rattle.std.proofs.Common.{ℕ, Bool, true, false, List, [], ◌∷◌, ◌++◌, ◌+◌, ◌-◌, ◌<◌, ◌≤◌, ◌≡◌, ◌^◌, ◌⊎◌, min, Option, Some, None, Result, Ok, Err, inl, inr, length, get_or, refl, sym, ap, subst, ◌∙◌, arith}
use Rattle.std.specs.Prelude.{IfSome, IfOk, IfErr, OnOk, String, Vec, slice_get, string_bytes, if◌then◌else◌, not, is_some, ◌==◌}
use Rattle.std.specs.declared.alloc.Global.{Global}
use Rattle.std.proofs.lemmas.Bool.{cases_eq}
use Rattle.std.proofs.lemmas.List.{get_or_append_left, get_or_push, length_push}
use Rattle.std.proofs.lemmas.Option.{slice_get-get_or}
use Rattle.cq_base.specs.declared.name.Name.{Name}
use Rattle.cq_base.specs.Names.{number_of}
use Rattle.cq_io.specs.Content.{File, find_file}
use Rattle.cq_io.specs.Counts.{Rose}
use Rattle.cq_theory.specs.SchemaData.{SchemaData as Schema}
use Rattle.cq_import.specs.declared.columns.Column.{Column}
use Rattle.cq_import.specs.declared.entity_file.EntityFile.{EntityFile}
use Rattle.cq_import.specs.declared.refusal.CsvRefusal.{CsvRefusal}
use Rattle.cq_import.specs.declared.refusal.CsvRefusal.TheVariants as refusal
use Rattle.cq_import.specs.Columns.{columns, header, header_with}
use Rattle.cq_import.specs.Faults.{Fault, Absent, ReadFault, TooLong, Tells, or_else, told}
use Rattle.cq_io.specs.FolderData.{FolderData}
use Rattle.cq_import.specs.Folders.{AreRead, IsRead, IsRefused, IsUnread, Keeps, Raises, Stops, name_of}
use Rattle.cq_import.specs.Imports.{IfAbsent, IfReadFault, IfTooLong, most_bytes, name_at}
use Rattle.cq_import.specs.Records.{Record, records_of}
use Rattle.cq_import.specs.Rows.{id_of, is_row, row_fault, rows_fault, same_record, sheet_fault}
use Rattle.cq_import.proofs.Faulty.{refuses_same}

-- a fault that is no read
abbrev pub NotReading : Fault → Type 0
NotReading (Absent file) = ⊥
NotReading (ReadFault file) = ⊥
NotReading (TooLong file) = ⊥
NotReading _ = Unit {0}

abbrev pub NoRead : Option Fault → Type 0
NoRead fault = IfSome fault NotReading

pub or_no_read : (a b : Option Fault) → NoRead a → NoRead b → NoRead (or_else a b)
or_no_read None b p q = q
or_no_read (Some f) b p q = p

pub if_no_read : (b : Bool) (x y : Option Fault) → NoRead x → NoRead y → NoRead (if b then x else y)
if_no_read true x y p q = p
if_no_read false x y p q = q

row_no_read : (file : List ℕ) (width : ℕ) (ids : List (List ℕ)) (number : ℕ) (fields : Record) → NoRead (row_fault file width ids number fields)
row_no_read file width ids number fields =
    if_no_read (not (is_row width fields)) _ _ tt (if_no_read (length (id_of fields) == 0) _ _ tt (if_no_read (is_some (number_of ids (id_of fields))) _ _ tt tt))

rows_no_read : (file : List ℕ) (width : ℕ) (ids : List (List ℕ)) (number : ℕ) (rows : List Record) → NoRead (rows_fault file width ids number rows)
rows_no_read file width ids number [] = tt
rows_no_read file width ids number (fields ∷ rows) =
    or_no_read (row_fault file width ids number fields) _ (row_no_read file width ids number fields) (rows_no_read file width (ids ++ id_of fields ∷ []) (number + 1) rows)

pub sheet_no_read : (file : List ℕ) (wanted : Record) (rows : List Record) → NoRead (sheet_fault file wanted rows)
sheet_no_read file wanted [] = tt
sheet_no_read file wanted (first ∷ rows) = if_no_read (same_record first wanted) _ _ (rows_no_read file (length wanted) [] 1 rows) tt

pub told_no_read : (r : CsvRefusal) (fault : Option Fault) → Tells r fault → NoRead fault → NotReading (told r)
told_no_read r fault (inl memory) none = subst NotReading (sym memory) tt
told_no_read r fault (inr is) none = subst NoRead is none

pub raises_other : {A : Type 0} (a b : FolderData) (r : CsvRefusal) → NotReading (told r) → Raises {A = A} a b (Err r)
raises_other a b (refusal.Absent file) none = absurd none
raises_other a b (refusal.ReadFault file) none = absurd none
raises_other a b (refusal.TooLong file) none = absurd none
raises_other a b (refusal.NotCsv file n) none = record { absent = tt; failed = tt; too_long = tt; fails = tt }
raises_other a b (refusal.BadHeader file) none = record { absent = tt; failed = tt; too_long = tt; fails = tt }
raises_other a b (refusal.BadCell file n k) none = record { absent = tt; failed = tt; too_long = tt; fails = tt }
raises_other a b (refusal.DoubleId file n) none = record { absent = tt; failed = tt; too_long = tt; fails = tt }
raises_other a b (refusal.NoSuchId file n k) none = record { absent = tt; failed = tt; too_long = tt; fails = tt }
raises_other a b refusal.TooLarge none = record { absent = tt; failed = tt; too_long = tt; fails = tt }
raises_other a b refusal.Memory none = record { absent = tt; failed = tt; too_long = tt; fails = tt }

pub raises_of : {A : Type 0} (a b : FolderData) (result : Result A CsvRefusal) (fault : Option Fault) → IfErr result (λ r. Tells r fault) → NoRead fault → Raises a b result
raises_of a b (Ok x) fault refuses none = record { absent = tt; failed = tt; too_long = tt; fails = tt }
raises_of a b (Err r) fault refuses none = raises_other a b r (told_no_read r fault refuses none)

pub keeps_itself : (a : FolderData) → Keeps a a
keeps_itself a = record { files = refl; absences = omega arith; faults = omega arith; overruns = omega arith; steady = refl; calm = λ steady. refl }

pub keeps_then : (a b c : FolderData) → Keeps a b → Keeps b c → Keeps a c
keeps_then a b c first second = record {
  files = second.files ∙ first.files;
  absences = omega (arith, first.absences, second.absences);
  faults = omega (arith, first.faults, second.faults);
  overruns = omega (arith, first.overruns, second.overruns);
  steady = second.steady ∙ first.steady;
  calm = λ steady. second.calm (first.steady ∙ steady) ∙ first.calm steady;
}

if_absent : {A : Type 0} {P Q : Type 0} (result : Result A CsvRefusal) → (P → Q) → IfAbsent result P → IfAbsent result Q
if_absent (Err (refusal.Absent file)) f p = f p
if_absent _ f p = tt

if_failed : {A : Type 0} {P Q : Type 0} (result : Result A CsvRefusal) → (P → Q) → IfReadFault result P → IfReadFault result Q
if_failed (Err (refusal.ReadFault file)) f p = f p
if_failed _ f p = tt

if_too_long : {A : Type 0} {P Q : Type 0} (result : Result A CsvRefusal) → (P → Q) → IfTooLong result P → IfTooLong result Q
if_too_long (Err (refusal.TooLong file)) f p = f p
if_too_long _ f p = tt

rose_before : (a b c : ℕ) → a ≤ b → Rose b c → Rose a c
rose_before a b c le rose = omega (arith, le, rose)

-- what is refused after other reads
pub raises_after : {A B : Type 0} (a b c : FolderData) (r : CsvRefusal) → Keeps a b → Raises {A = A} b c (Err r) → Raises {A = B} a c (Err r)
raises_after {A} {B} a b c r keeps raises = moved r (weaker (Err r) raises)
  where
    weaker : (result : Result A CsvRefusal) → Raises {A = A} b c result → Raises {A = A} a c result
    weaker result h = record {
      absent = if_absent result (rose_before a.absences b.absences c.absences keeps.absences) h.absent;
      failed = if_failed result (rose_before a.faults b.faults c.faults keeps.faults) h.failed;
      too_long = if_too_long result (rose_before a.overruns b.overruns c.overruns keeps.overruns) h.too_long;
      fails = if_failed result (λ e. sym keeps.steady ∙ e) h.fails;
    }

    moved : (q : CsvRefusal) → Raises {A = A} a c (Err q) → Raises {A = B} a c (Err q)
    moved (refusal.Absent file) h = record { absent = h.absent; failed = tt; too_long = tt; fails = tt }
    moved (refusal.ReadFault file) h = record { absent = tt; failed = h.failed; too_long = tt; fails = h.fails }
    moved (refusal.TooLong file) h = record { absent = tt; failed = tt; too_long = h.too_long; fails = tt }
    moved _ h = record { absent = tt; failed = tt; too_long = tt; fails = tt }

-- what is answered after other reads
pub raises_later : {A : Type 0} (a b c : FolderData) (result : Result A CsvRefusal) → Keeps a b → Raises b c result → Raises a c result
raises_later a b c (Ok x) keeps raises = record { absent = tt; failed = tt; too_long = tt; fails = tt }
raises_later a b c (Err r) keeps raises = raises_after a b c r keeps raises

pub name_here : (S : Schema) (entities : List Name) (entity : ℕ) (x t : Name) → entities ≡ S.entities → entity < length S.entities → x ≡ get_or entities entity x → t ≡ x
    → t ≡ name_at (slice_get S.entities entity)
name_here S entities entity x t same within is text =
    let found : slice_get S.entities entity ≡ Some (get_or S.entities entity x) = slice_get-get_or S.entities entity x within in
    text ∙ is ∙ ap (λ l. get_or l entity x) same ∙ sym (ap name_at found)

module _ (files : Option (List File)) (dir : Name) (S : Schema) (entity : ℕ) (name text : List ℕ) (found : List Column)
    (named : name ≡ name_of dir S entity) (columned : found ≡ columns S entity) (short : length text ≤ most_bytes) (there : IfSome files (λ told. find_file name told ≡ Some text)) where
  wanted : sheet_fault name (header_with S found) (records_of text) ≡ sheet_fault (name_of dir S entity) (header S entity) (records_of text)
  wanted = λ i. sheet_fault (named i) (header_with S (columned i)) (records_of text)

  there_named : IfSome files (λ told. find_file (name_of dir S entity) told ≡ Some text)
  there_named = subst (λ n. IfSome files (λ told. find_file n told ≡ Some text)) named there

  pub read_passed : (result : Result EntityFile CsvRefusal) → IfOk result (λ file. (string_bytes file.name ≡ name) × (file.text.items ≡ text))
      → OnOk result (sheet_fault name (header_with S found) (records_of text) ≡ None) → IfOk result (IsRead dir S files entity)
  read_passed (Err r) same passed = tt
  read_passed (Ok file) same passed = record {
    named = same.0 ∙ named;
    short = subst (λ t. length t ≤ most_bytes) (sym same.1) short;
    found = subst (λ t. IfSome files (λ told. find_file (name_of dir S entity) told ≡ Some t)) (sym same.1) there_named;
    passed = ap (λ t. sheet_fault (name_of dir S entity) (header S entity) (records_of t)) same.1 ∙ sym wanted ∙ passed;
  }

  pub read_refused : (result : Result EntityFile CsvRefusal) → IfErr result (λ r. Tells r (sheet_fault name (header_with S found) (records_of text))) → IfErr result (IsRefused dir S files entity)
  read_refused (Ok file) refuses = tt
  read_refused (Err r) refuses = inr (record { text = text; short = short; found = there_named; refuses = refuses_same r _ _ wanted refuses })

-- no file yet
pub AreRead-none : (dir : Name) (S : Schema) (files : Option (List File)) (made : List EntityFile) → made ≡ [] → AreRead dir S files made
AreRead-none dir S files made none = subst (AreRead dir S files) (sym none) (λ entity d within. absurd (omega (arith, within)))

-- one file more
pub AreRead-more : (dir : Name) (S : Schema) (files : Option (List File)) (made more : List EntityFile) (file : EntityFile) → AreRead dir S files made → IsRead dir S files (length made) file
    → more ≡ made ++ file ∷ [] → AreRead dir S files more
AreRead-more dir S files made more file read one is = subst (AreRead dir S files) (sym is) (λ entity d within. elim (cases_eq entity (length made)) [
  | inl same ↦ subst (IsRead dir S files entity) (sym (get_or_push made file d entity (sym same))) (subst (λ n. IsRead dir S files n file) (sym same) one)
  | inr other ↦
      let size = length_push made file in
      let inside : entity < length made = omega arith in
      subst (IsRead dir S files entity) (sym (get_or_append_left made (file ∷ []) d entity inside)) (read entity d inside)
])

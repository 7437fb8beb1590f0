-- The files of the entities in a folder that holds the files of an instance.
use Rattle.std.proofs.Common.{ℕ, zero, suc, false, List, [], ◌∷◌, ◌++◌, Option, Some, None, ◌≡◌, ◌<◌, ◌≤◌, ◌+◌, cond, drop, map, length, refl, sym, ap, ◌∙◌, arith}
use Rattle.std.specs.Prelude.{codes, nat_lt, slice_get, unwrap_or}
use Rattle.std.specs.List.{range_with_len}
use Rattle.std.proofs.lemmas.Bool.Decides.{nat_tests}
use Rattle.cq_base.specs.declared.name.Name.{Name}
use Rattle.cq_io.specs.Content.{File, find_file}
use Rattle.cq_theory.specs.Canonical.{below}
use Rattle.cq_theory.specs.Tables.{count_of}
use Rattle.cq_theory.proofs.Every.{Every, Every-at, Every-parts, Every-unmap, at_range}
use Rattle.cq_instance.specs.InstanceData.{InstanceData, IsInstance}
use Rattle.cq_text.specs.Grouped.{numbers_from}
use Rattle.cq_text.specs.Transcript.{name_or_empty}
use Rattle.cq_import.specs.Columns as import
use Rattle.cq_import.specs.Entries.{entries_text}
use Rattle.cq_import.specs.Faults.{Fault, TooLong, first_fault, or_else}
use Rattle.cq_import.specs.Imports.{file_fault, file_name, file_of, files_fault, most_bytes, name_at, reading_fault, sheet_of, sheets_of}
use Rattle.cq_import.specs.Labels.{Labels}
use Rattle.cq_import.specs.Records.{records_of}
use Rattle.cq_import.specs.Rows.{rows_of, sheet_fault}
use Rattle.cq_csv.specs.Files.{algebra_records, entity_file, entity_records, files_of, names_of, row_record}
use Rattle.cq_csv.specs.Files as export
use Rattle.cq_csv.specs.Records.{file_text}
use Rattle.cq_return.proofs.AllReadable.{AreReadable}
use Rattle.cq_return.proofs.Fields.{fields_of, header_is, record_is}
use Rattle.cq_return.proofs.Given.{AreGiven}
use Rattle.cq_return.proofs.RowsPass.{entity_passes}
use Rattle.cq_return.proofs.Sheets.{rows, sheet, sheets}
use Rattle.cq_return.proofs.Written.{HaveFields, id_back}

-- the files of the instance in this folder are found with their bytes
abbrev pub HoldsAt : List File → Name → InstanceData → Type 0
HoldsAt files dir i = Every (λ file. find_file file.0 files ≡ Some file.1) (files_of dir i)

not_longer : (m n : ℕ) → n ≤ m → nat_lt m n ≡ false
not_longer m n h = grind (arith, nat_tests)

-- a file that is found and isn't too long is read
pub reading_passes : (name text : List ℕ) → length text ≤ most_bytes → reading_fault name (Some text) ≡ None
reading_passes name text short = ap (λ b. cond b (Some (TooLong name)) None) (not_longer most_bytes (length text) short)

no_faults : (f : ℕ → Option Fault) (s n : ℕ) → ((k : ℕ) → s ≤ k → k < s + n → f k ≡ None) → first_fault (map f (range_with_len s n)) ≡ None
no_faults f s zero each = refl
no_faults f s (suc n) each =
    ap (λ o. or_else o (first_fault (map f (range_with_len (s + 1) n)))) (each s (omega arith) (omega arith)) ∙ no_faults f (s + 1) n (λ k low high. each k (omega arith) (omega arith))

pub same_range : {X : Type 0} (f g : ℕ → X) (s n : ℕ) → ((k : ℕ) → s ≤ k → k < s + n → f k ≡ g k) → map f (range_with_len s n) ≡ map g (range_with_len s n)
same_range f g s zero each = refl
same_range f g s (suc n) each =
    let one = each s (omega arith) (omega arith) in
    let others = same_range f g (s + 1) n (λ k low high. each k (omega arith) (omega arith)) in
    λ j. one j ∷ others j

same_name : (o : Option Name) → name_or_empty o ≡ name_at o
same_name None = refl
same_name (Some name) = refl

module _ (dir : Name) (i : InstanceData) where
  abbrev pub entity_text : ℕ → List ℕ
  entity_text entity = file_text (entity_records i entity)

  have_fields : (attributes keys : List ℕ) (s n : ℕ) → HaveFields (map (row_record i attributes keys) (range_with_len s n))
  have_fields attributes keys s zero = tt
  have_fields attributes keys s (suc n) = have_fields attributes keys (s + 1) n

  -- the records that are read of an entity's file
  pub entity_read : (entity : ℕ) → records_of (entity_text entity) ≡ import.header i.schema entity ∷ rows dir i entity
  entity_read entity =
      let attributes = numbers_from entity i.schema.attributes in
      let keys = numbers_from entity i.schema.keys in
      let header = header_is i entity in
      let records = same_range (row_record i attributes keys) (fields_of i entity) 0 (count_of i.tables entity) (λ row low high. record_is i entity row) in
      id_back (names_of i.schema.attributes attributes ++ names_of i.schema.keys keys) (map (row_record i attributes keys) (below (count_of i.tables entity)))
      (have_fields attributes keys 0 (count_of i.tables entity))
      ∙ (λ j. header j ∷ records j)

module _ (dir : Name) (i : InstanceData) (files : List File) (holds : HoldsAt files dir i) where
  abbrev Found : File → Type 0
  Found file = find_file file.0 files ≡ Some file.1

  all_found : Every Found (map (entity_file dir i) (below (length i.schema.entities))) × Every Found ((export.file_name dir (codes "entries-2"), file_text (algebra_records i)) ∷ [])
  all_found = Every-parts Found (map (entity_file dir i) (below (length i.schema.entities))) ((export.file_name dir (codes "entries-2"), file_text (algebra_records i)) ∷ [])
      holds

  pub entity_found : (entity : ℕ) → entity < length i.schema.entities → find_file (file_of files dir i.schema entity) files ≡ Some (entity_text dir i entity)
  entity_found entity within =
      let here : 0 + entity ≡ entity = omega arith in
      ap (λ name. find_file (file_name dir name) files) (sym (same_name (slice_get i.schema.entities entity)))
      ∙ Every-at (λ e. Found (entity_file dir i e)) (below (length i.schema.entities)) entity entity
      (Every-unmap Found (entity_file dir i) (below (length i.schema.entities)) all_found.0)
      (at_range 0 (length i.schema.entities) entity within ∙ ap (λ n. Some n) here)

  pub entries_found : entries_text files dir ≡ Some (file_text (algebra_records i))
  entries_found = all_found.1.0

module _ (dir : Name) (i : InstanceData) (is : IsInstance i) (returnable : AreReadable i) (files : List File) (holds : HoldsAt files dir i)
    (labels : Labels) (given : AreGiven i.tables.algebra.nulls labels) where
  file_passes : (entity : ℕ) → entity < length i.schema.entities → file_fault files dir i.schema entity ≡ None
  file_passes entity within =
      let name = file_of files dir i.schema entity in
      let wanted = import.header i.schema entity in
      ap (λ o. or_else (reading_fault name o) (sheet_fault name wanted (records_of (unwrap_or o [])))) (entity_found dir i files holds entity within)
      ∙ ap (λ f. or_else f (sheet_fault name wanted (records_of (entity_text dir i entity)))) (reading_passes name (entity_text dir i entity) (returnable.short_entities entity within))
      ∙ ap (sheet_fault name wanted) (entity_read dir i entity) ∙ entity_passes dir i is returnable labels given name entity

  pub files_pass : files_fault files dir i.schema (length i.schema.entities) ≡ None
  files_pass = no_faults (file_fault files dir i.schema) 0 (length i.schema.entities) (λ entity low high. file_passes entity (omega arith))

  sheet_is : (entity : ℕ) → entity < length i.schema.entities → sheet_of files dir i.schema entity ≡ sheet dir i entity
  sheet_is entity within =
      let read : rows_of (unwrap_or (find_file (file_of files dir i.schema entity) files) []) ≡ rows dir i entity =
      ap (λ o. rows_of (unwrap_or o [])) (entity_found dir i files holds entity within) ∙ ap (drop 1) (entity_read dir i entity) in
      λ j. record { file = file_of [] dir i.schema entity; rows = read j }

  pub sheets_are : sheets_of files dir i.schema ≡ sheets dir i
  sheets_are = same_range (sheet_of files dir i.schema) (sheet dir i) 0 (length i.schema.entities) (λ entity low high. sheet_is entity (omega arith))

-- The answers of an import of format 2, over the files that a folder tells, or over those that were read.
use Rattle.std.proofs.Common.{ℕ, List, [], ◌∷◌, ◌++◌, ◌+◌, ◌<◌, ◌≤◌, ◌≡◌, ◌⊎◌, Option, Some, None, Result, Ok, Err, inl, inr, length, map, refl, sym, ap, subst, ◌∙◌, arith}
use Rattle.std.specs.Prelude.{IfSome, IfOk, OnOk, IfErr, unwrap_or, string_bytes}
use Rattle.std.proofs.lemmas.List.{length-map}
use Rattle.cq_base.specs.declared.name.Name.{Name}
use Rattle.cq_io.specs.Content.{File, find_file}
use Rattle.cq_io.specs.Reads.{IsLonger}
use Rattle.cq_theory.specs.declared.presentation.Presentation.{Presentation}
use Rattle.cq_theory.specs.SchemaData.{SchemaData as Schema}
use Rattle.cq_theory.specs.TypesideData.{TypesideData as Typeside}
use Rattle.cq_theory.specs.Schema.{IsSchema}
use Rattle.cq_theory.specs.declared.value.Value.{Value}
use Rattle.cq_import.specs.declared.entity_file.EntityFile.{EntityFile}
use Rattle.cq_import.specs.declared.entries_text.EntriesFile.{EntriesFile}
use Rattle.cq_import.specs.declared.labels.Trouble.{Trouble}
use Rattle.cq_import.specs.declared.refusal.CsvRefusal.{CsvRefusal}
use Rattle.cq_import.specs.declared.refusal.CsvRefusal.TheVariants as refusal
use Rattle.cq_import.specs.Cells.{Sheet, all_cells, cells_fault}
use Rattle.cq_import.specs.Columns.{header}
use Rattle.cq_import.specs.Context.{sheet_in}
use Rattle.cq_import.specs.Entries.{IsImport2Over, OfFiles2, contents2_fault, entries_fault, entries_file, entry_fault, fault2_over, is_entry, is_new, is_null, kind_fault, labels2_of, line_fault, lines_fault, mark, marked_fault, null_fault, nulls_fault, or_bad, presented2, rest_fault, right_fault, sheets2_fault, sides_fault, size2_fault, text_lines, text_records, trouble_in, type_named, uses_fault, with_null}
use Rattle.cq_import.specs.Faults.{Absent, BadCell, BadHeader, Fault, NotCsv, Tells, TooLarge, TooLong, or_else, told}
use Rattle.cq_import.specs.Folders.{AreRead, IsRefused, IsUnread, IsWrong, Stops, name_of}
use Rattle.cq_import.specs.Folders2.{IsEntriesRead, IsEntriesRefused, IsEntriesWrong}
use Rattle.cq_import.specs.Imports.{file_fault, files_fault, most_bytes, reading_fault, sheets_of}
use Rattle.cq_import.specs.Labels.{Labels}
use Rattle.cq_import.specs.Records.{Record, records_of}
use Rattle.cq_import.specs.Rows.{is_row, rows_of, same_record, sheet_fault}
use Rattle.cq_values.specs.Built.{built_in, label_in}
use Rattle.cq_values.specs.Reading.{value_in}
use Rattle.cq_import.specs.Records.{field_in}
use Rattle.cq_import.proofs.Answering.{cells_no_read}
use Rattle.cq_import.proofs.Faulty.{after_none, refuses_same}
use Rattle.cq_import.proofs.FolderReads.{NoRead, NotReading, if_no_read, or_no_read, sheet_no_read, told_no_read}
use Rattle.cq_import.proofs.Imported.{fault_at, files_stop, if_false, if_true, longer, made_pass, not_longer, sheets_are}
use Rattle.cq_import.proofs.Untold.{a_longer, pair_of, settled, settled_refused}

-- No fault in what was read is a read.
trouble_in_no_read : (o : Option Trouble) (file : List ℕ) (n k : ℕ) → NoRead (trouble_in o (BadCell file n k))
trouble_in_no_read None file n k = tt
trouble_in_no_read (Some t) file n k = tt

or_bad_no_read : (o : Option ℕ) (file : List ℕ) (n k : ℕ) → NoRead (or_bad o (BadCell file n k))
or_bad_no_read None file n k = tt
or_bad_no_read (Some x) file n k = tt

module _ (T : Typeside) (file : List ℕ) where
  null_no_read : (labels : Labels) (number : ℕ) (fields : Record) → NoRead (null_fault T file labels number fields)
  null_no_read labels number fields =
      or_no_read (or_bad (is_new labels (label_in (field_in fields 1))) (BadCell file number 2)) _
      (or_bad_no_read (is_new labels (label_in (field_in fields 1))) file number 2) (or_bad_no_read (type_named T (field_in fields 2)) file number 3)

  nulls_no_read : (labels : Labels) (number : ℕ) (lines : List Record) → NoRead (nulls_fault T file labels number lines)
  nulls_no_read labels number [] = tt
  nulls_no_read labels number (fields ∷ lines) =
      or_no_read (kind_fault T file labels number fields) _
      (if_no_read (is_null fields) _ _ (null_no_read labels number fields) (if_no_read (is_entry fields) None (Some (BadCell file number 1)) tt tt))
      (nulls_no_read (with_null T labels fields) (number + 1) lines)

  right_no_read : (labels : Labels) (number type : ℕ) (o : Option Value) → NoRead (right_fault T file labels number type o)
  right_no_read labels number type None = tt
  right_no_read labels number type (Some w) = trouble_in_no_read _ file number 3

  sides_no_read : (labels : Labels) (number : ℕ) (o : Option (ℕ × Value)) (right : List ℕ) → NoRead (sides_fault T file labels number o right)
  sides_no_read labels number None right = tt
  sides_no_read labels number (Some left) right =
      or_no_read (uses_fault T file labels number 2 left.1 left.0) _ (trouble_in_no_read _ file number 2) (right_no_read labels number left.0 (value_in T left.0 right))

  entries_no_read : (labels : Labels) (number : ℕ) (lines : List Record) → NoRead (entries_fault T file labels number lines)
  entries_no_read labels number [] = tt
  entries_no_read labels number (fields ∷ lines) =
      or_no_read (entry_fault T file labels number fields) _
      (if_no_read (is_entry fields) _ None (sides_no_read labels number (built_in T (field_in fields 1)) (field_in fields 2)) tt) (entries_no_read labels (number + 1) lines)

pub sheets2_no_read : (S : Schema) (sheets : List Sheet) (lines : List Record) (file : List ℕ) → NoRead (sheets2_fault S sheets lines file)
sheets2_no_read S sheets lines file =
    or_no_read (size2_fault S sheets lines) _ (if_no_read _ (Some TooLarge) None tt tt)
    (or_no_read (nulls_fault S.typeside file [] 1 lines) _ (nulls_no_read S.typeside file [] 1 lines)
    (or_no_read (cells_fault sheets S.typeside None (labels2_of S sheets lines) (all_cells S sheets)) _ (cells_no_read sheets S.typeside None (labels2_of S sheets lines) (all_cells S sheets))
    (entries_no_read S.typeside file (labels2_of S sheets lines) 1 lines)))

lines_no_read : (file : List ℕ) (number : ℕ) (lines : List Record) → NoRead (lines_fault file number lines)
lines_no_read file number [] = tt
lines_no_read file number (fields ∷ lines) = or_no_read (line_fault file number fields) _ (if_no_read (is_row 3 fields) None (Some (NotCsv file number)) tt tt) (lines_no_read file (number + 1) lines)

pub marked_no_read : (file : List ℕ) (lines : List Record) → NoRead (marked_fault file lines)
marked_no_read file [] = tt
marked_no_read file (first ∷ lines) = if_no_read (same_record first mark) _ (Some (BadHeader file)) (lines_no_read file 1 lines) tt

-- The file of the nulls and the entries was not read.
abbrev IsTextUnread : List ℕ → Option (List ℕ) → CsvRefusal → Type 0
IsTextUnread name text (refusal.Absent file) = (string_bytes file ≡ name) × (text ≡ None)
IsTextUnread name text (refusal.TooLong file) = (string_bytes file ≡ name) × ((content : List ℕ) × (text ≡ Some content) × (most_bytes < length content))
IsTextUnread name text (refusal.ReadFault file) = string_bytes file ≡ name
IsTextUnread name text refusal.Memory = Unit {0}
IsTextUnread name text r = ⊥

told_unread : (name : List ℕ) (files : List File) (r : CsvRefusal) → IsUnread (Some files) name r → IsTextUnread name (find_file name files) r
told_unread name files (refusal.Absent file) unread = unread
told_unread name files (refusal.TooLong file) unread = let long = unread.1 in (unread.0, (long.content, long.found, long.longer))
told_unread name files (refusal.ReadFault file) unread = unread
told_unread name files refusal.Memory unread = tt
told_unread name files (refusal.NotCsv file n) unread = absurd unread
told_unread name files (refusal.BadHeader file) unread = absurd unread
told_unread name files (refusal.BadCell file n k) unread = absurd unread
told_unread name files (refusal.DoubleId file n) unread = absurd unread
told_unread name files (refusal.NoSuchId file n k) unread = absurd unread
told_unread name files refusal.TooLarge unread = absurd unread

untold_unread : (name : List ℕ) (r : CsvRefusal) → IsUnread None name r → (text : Option (List ℕ)) × IsTextUnread name text r
untold_unread name (refusal.Absent file) unread = (None, (unread.0, refl))
untold_unread name (refusal.TooLong file) unread = let long = a_longer most_bytes in (Some long.0, (unread.0, (long.0, refl, long.1)))
untold_unread name (refusal.ReadFault file) unread = (None, unread)
untold_unread name refusal.Memory unread = (None, tt)
untold_unread name (refusal.NotCsv file n) unread = absurd unread
untold_unread name (refusal.BadHeader file) unread = absurd unread
untold_unread name (refusal.BadCell file n k) unread = absurd unread
untold_unread name (refusal.DoubleId file n) unread = absurd unread
untold_unread name (refusal.NoSuchId file n k) unread = absurd unread
untold_unread name refusal.TooLarge unread = absurd unread

module _ (files : List File) (text : Option (List ℕ)) (dir : Name) (S : Schema) where
  other_import2 : (r : CsvRefusal) → NotReading (told r) → Tells r (fault2_over files text dir S) → IsImport2Over files text dir S (Err r)
  other_import2 (refusal.Absent file) none refuses = absurd none
  other_import2 (refusal.ReadFault file) none refuses = absurd none
  other_import2 (refusal.TooLong file) none refuses = absurd none
  other_import2 (refusal.NotCsv file n) none (inl memory) = cc memory
  other_import2 (refusal.NotCsv file n) none (inr is) = is
  other_import2 (refusal.BadHeader file) none (inl memory) = cc memory
  other_import2 (refusal.BadHeader file) none (inr is) = is
  other_import2 (refusal.BadCell file n k) none (inl memory) = cc memory
  other_import2 (refusal.BadCell file n k) none (inr is) = is
  other_import2 (refusal.DoubleId file n) none (inl memory) = cc memory
  other_import2 (refusal.DoubleId file n) none (inr is) = is
  other_import2 (refusal.NoSuchId file n k) none (inl memory) = cc memory
  other_import2 (refusal.NoSuchId file n k) none (inr is) = is
  other_import2 refusal.TooLarge none (inl memory) = cc memory
  other_import2 refusal.TooLarge none (inr is) = is
  other_import2 refusal.Memory none refuses = tt

  -- Reading stops at an entity.
  module _ (k : ℕ) (less : k < length S.entities) (passed : files_fault files dir S k ≡ None) where
    abbrev behind_files : Option Fault
    behind_files =
        or_else (reading_fault (entries_file dir) text)
        (or_else (marked_fault (entries_file dir) (text_records files text dir S)) (sheets2_fault S (sheets_of files dir S) (text_lines files text dir S) (entries_file dir)))

    first_here2 : (f : Fault) → file_fault files dir S k ≡ Some f → fault2_over files text dir S ≡ Some f
    first_here2 f is = ap (λ o. or_else o behind_files) (files_stop files dir S (length S.entities) k f less passed is)

    unread_stops2 : (r : CsvRefusal) → IsUnread (Some files) (name_of dir S k) r → IsImport2Over files text dir S (Err r)
    unread_stops2 (refusal.Absent file) unread = first_here2 _ (ap (λ o. fault_at files dir S o k) unread.1) ∙ ap (λ n. Some (Absent n)) (sym unread.0)
    unread_stops2 (refusal.TooLong file) unread =
        let long = unread.1 in
        first_here2 (TooLong (name_of dir S k))
        (ap (λ o. fault_at files dir S o k) long.found ∙ ap (λ o. or_else o (sheet_fault (name_of dir S k) (header S k) (records_of long.content))) (if_true (TooLong (name_of dir S k)) _ (longer most_bytes (length long.content) long.longer)))
        ∙ ap (λ n. Some (TooLong n)) (sym unread.0)
    unread_stops2 (refusal.ReadFault file) unread = inl (record { entity = k; within = less; named = sym unread; passed = passed })
    unread_stops2 refusal.Memory unread = tt
    unread_stops2 (refusal.NotCsv file n) unread = absurd unread
    unread_stops2 (refusal.BadHeader file) unread = absurd unread
    unread_stops2 (refusal.BadCell file n c) unread = absurd unread
    unread_stops2 (refusal.DoubleId file n) unread = absurd unread
    unread_stops2 (refusal.NoSuchId file n c) unread = absurd unread
    unread_stops2 refusal.TooLarge unread = absurd unread

    wrong_stops2 : (r : CsvRefusal) → IsWrong dir S (Some files) k r → IsImport2Over files text dir S (Err r)
    wrong_stops2 r wrong =
        let other = told_no_read r _ wrong.refuses (sheet_no_read (name_of dir S k) (header S k) (records_of wrong.text)) in
        let here : (f : Fault) → sheet_fault (name_of dir S k) (header S k) (records_of wrong.text) ≡ Some f → fault2_over files text dir S ≡ Some f = λ f is.
        first_here2 f (ap (λ o. fault_at files dir S o k) wrong.found ∙ after_none _ _ (if_false _ _ (not_longer most_bytes (length wrong.text) wrong.short)) ∙ is) in
        other_import2 r other (elim wrong.refuses [ inl memory ↦ inl memory | inr is ↦ inr (here (told r) is) ])

  stopped2 : (made : List EntityFile) → AreRead dir S (Some files) made → length made < length S.entities → (r : CsvRefusal) → IsRefused dir S (Some files) (length made) r
      → IsImport2Over files text dir S (Err r)
  stopped2 made read less r (inl unread) = unread_stops2 (length made) less (made_pass files dir S made read) r unread
  stopped2 made read less r (inr wrong) = wrong_stops2 (length made) less (made_pass files dir S made read) r wrong

  -- All files of entities are read and pass.
  module _ (made : List EntityFile) (read : AreRead dir S (Some files) made) (few : length made ≡ length S.entities) where
    all_pass : files_fault files dir S (length S.entities) ≡ None
    all_pass = subst (λ n. files_fault files dir S n ≡ None) few (made_pass files dir S made read)

    abbrev then_marked : Option (List ℕ) → Option Fault
    then_marked o =
        or_else (reading_fault (entries_file dir) o)
        (or_else (marked_fault (entries_file dir) (records_of (unwrap_or o []))) (sheets2_fault S (sheets_of files dir S) (rows_of (unwrap_or o [])) (entries_file dir)))

    after_files : fault2_over files text dir S ≡ then_marked text
    after_files = after_none (files_fault files dir S (length S.entities)) (then_marked text) all_pass

    unread2 : (r : CsvRefusal) → IsTextUnread (entries_file dir) text r → IsImport2Over files text dir S (Err r)
    unread2 (refusal.Absent file) unread = after_files ∙ ap then_marked unread.1 ∙ ap (λ n. Some (Absent n)) (sym unread.0)
    unread2 (refusal.TooLong file) unread =
        let long = unread.1 in
        after_files ∙ ap then_marked long.1
        ∙ ap (λ o. or_else o (or_else (marked_fault (entries_file dir) (records_of long.0)) (sheets2_fault S (sheets_of files dir S) (rows_of long.0) (entries_file dir))))
        (if_true (TooLong (entries_file dir)) _ (longer most_bytes (length long.0) long.2))
        ∙ ap (λ n. Some (TooLong n)) (sym unread.0)
    unread2 (refusal.ReadFault file) unread = inr (sym unread, all_pass)
    unread2 refusal.Memory unread = tt
    unread2 (refusal.NotCsv file n) unread = absurd unread
    unread2 (refusal.BadHeader file) unread = absurd unread
    unread2 (refusal.BadCell file n k) unread = absurd unread
    unread2 (refusal.DoubleId file n) unread = absurd unread
    unread2 (refusal.NoSuchId file n k) unread = absurd unread
    unread2 refusal.TooLarge unread = absurd unread

    module _ (bytes : List ℕ) (there : text ≡ Some bytes) (short : length bytes ≤ most_bytes) where
      after_reading : fault2_over files text dir S ≡ or_else (marked_fault (entries_file dir) (records_of bytes)) (sheets2_fault S (sheets_of files dir S) (rows_of bytes) (entries_file dir))
      after_reading = after_files ∙ ap then_marked there ∙ after_none _ _ (if_false (TooLong (entries_file dir)) _ (not_longer most_bytes (length bytes) short))

      wrong2 : (r : CsvRefusal) → Tells r (marked_fault (entries_file dir) (records_of bytes)) → IsImport2Over files text dir S (Err r)
      wrong2 r refuses =
          other_import2 r (told_no_read r _ refuses (marked_no_read (entries_file dir) (records_of bytes)))
          (elim refuses [
            | inl memory ↦ inl memory
            | inr is ↦ inr (after_reading ∙ ap (λ o. or_else o (sheets2_fault S (sheets_of files dir S) (rows_of bytes) (entries_file dir))) is)
          ])

      module _ (passed : marked_fault (entries_file dir) (records_of bytes) ≡ None) where
        after_all : fault2_over files text dir S ≡ sheets2_fault S (map sheet_in made) (rows_of bytes) (entries_file dir)
        after_all = after_reading ∙ after_none _ _ passed ∙ ap (λ sheets. sheets2_fault S sheets (rows_of bytes) (entries_file dir)) (sheets_are files dir S made read few)

        answered2 : (name : List ℕ) → name ≡ entries_file dir → (result : Result Presentation CsvRefusal) → OnOk result (sheets2_fault S (map sheet_in made) (rows_of bytes) name ≡ None)
            → IfOk result (λ p. p ≡ presented2 S (map sheet_in made) (rows_of bytes)) → IfErr result (λ r. Tells r (sheets2_fault S (map sheet_in made) (rows_of bytes) name))
            → IsImport2Over files text dir S result
        answered2 name named (Ok p) none is refused = (
          after_all ∙ ap (sheets2_fault S (map sheet_in made) (rows_of bytes)) (sym named) ∙ none,
          is ∙ sym (λ i. presented2 S (sheets_are files dir S made read few i) (rows_of (unwrap_or (there i) []))),
        )
        answered2 name named (Err r) none is refused =
            let here = refuses_same r _ _ (ap (sheets2_fault S (map sheet_in made) (rows_of bytes)) named) refused in
            other_import2 r (told_no_read r _ here (sheets2_no_read S (map sheet_in made) (rows_of bytes) (entries_file dir))) (refuses_same r _ _ (sym after_all) here)

-- Over what a folder tells, or over what was read.
module _ (dir : Name) (S : Schema) (schema : IsSchema S) where
  pub answer2_refuses : (told_files : Option (List File)) (r : CsvRefusal) → (r ≡ refusal.Memory) ⊎ Stops dir S told_files r → OfFiles2 told_files dir (λ f t. IsImport2Over f t dir S (Err r))
  answer2_refuses (Some files) r (inl memory) = subst (λ q. IsImport2Over files (find_file (entries_file dir) files) dir S (Err q)) (sym memory) tt
  answer2_refuses None r (inl memory) = ([], None, subst (λ q. IsImport2Over [] None dir S (Err q)) (sym memory) tt)
  answer2_refuses (Some files) r (inr stops) = stopped2 files (find_file (entries_file dir) files) dir S stops.made stops.read stops.within r stops.refused
  answer2_refuses None r (inr stops) =
      let less : length stops.made ≤ length S.entities = omega (arith, stops.within) in
      let found = settled_refused dir S schema stops.made stops.read less r stops.within stops.refused in
      let files = map (pair_of dir S schema) stops.made ++ found.0 in
      (files, None, stopped2 files None dir S stops.made (settled dir S schema stops.made stops.read less found.0) stops.within r found.1)

  module _ (made : List EntityFile) (few : length made ≡ length S.entities) where
    abbrev read_files : List File
    read_files = map (pair_of dir S schema) made ++ []

    read_them : AreRead dir S None made → AreRead dir S (Some (map (pair_of dir S schema) made ++ [])) made
    read_them read = settled dir S schema made read (omega arith) []

    pub answer2_presents : (told_files : Option (List File)) → AreRead dir S told_files made → (entries : EntriesFile) → IsEntriesRead dir told_files entries → (result : Result Presentation CsvRefusal)
        → OnOk result (sheets2_fault S (map sheet_in made) (rows_of entries.text.items) (string_bytes entries.name) ≡ None)
        → IfOk result (λ p. p ≡ presented2 S (map sheet_in made) (rows_of entries.text.items))
        → IfErr result (λ r. Tells r (sheets2_fault S (map sheet_in made) (rows_of entries.text.items) (string_bytes entries.name)))
        → OfFiles2 told_files dir (λ f t. IsImport2Over f t dir S result)
    answer2_presents (Some files) read entries entered result passed is refused =
        answered2 files (find_file (entries_file dir) files) dir S made read few entries.text.items entered.found entered.short entered.passed (string_bytes entries.name) entered.named result passed is refused
    answer2_presents None read entries entered result passed is refused = (
      read_files,
      Some entries.text.items,
      answered2 read_files (Some entries.text.items) dir S made (read_them read) few entries.text.items refl entered.short entered.passed (string_bytes entries.name) entered.named result passed is refused,
    )

    pub answer2_unread : (told_files : Option (List File)) → AreRead dir S told_files made → (r : CsvRefusal) → IsEntriesRefused dir told_files r → OfFiles2 told_files dir (λ f t. IsImport2Over f t dir S (Err r))
    answer2_unread (Some files) read r (inl unread) = unread2 files (find_file (entries_file dir) files) dir S made read few r (told_unread (entries_file dir) files r unread)
    answer2_unread (Some files) read r (inr wrong) = wrong2 files (find_file (entries_file dir) files) dir S made read few wrong.text wrong.found wrong.short r wrong.refuses
    answer2_unread None read r (inl unread) =
        let found = untold_unread (entries_file dir) r unread in
        (read_files, found.0, unread2 read_files found.0 dir S made (read_them read) few r found.1)
    answer2_unread None read r (inr wrong) = (read_files, Some wrong.text, wrong2 read_files (Some wrong.text) dir S made (read_them read) few wrong.text refl wrong.short r wrong.refuses)

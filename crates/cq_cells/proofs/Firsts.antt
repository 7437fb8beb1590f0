-- The first of all faults is the one that import tells.
use Rattle.std.proofs.Common.{ℕ, zero, suc, Bool, true, false, List, [], ◌∷◌, ◌++◌, ◌+◌, ◌-◌, ◌<◌, ◌≤◌, ◌≡◌, ◌⊎◌, inl, inr, Option, Some, None, length, map, take, refl, sym, ap, ◌∙◌, arith}
use Rattle.std.specs.Prelude.{nat_lt, unwrap_or, if◌then◌else◌}
use Rattle.std.specs.List.{flat_map, range_with_len}
use Rattle.std.proofs.lemmas.Bool.Decides.{nat_tests}
use Rattle.cq_base.specs.declared.name.Name.{Name}
use Rattle.cq_base.specs.Names.{number_of}
use Rattle.cq_io.specs.Content.{File, find_file}
use Rattle.cq_theory.specs.TypesideData.{TypesideData as Typeside}
use Rattle.cq_theory.specs.SchemaData.{SchemaData as Schema}
use Rattle.cq_import.specs.declared.columns.Column.{Column}
use Rattle.cq_import.specs.declared.columns.Column.TheVariants.{Attribute, Key}
use Rattle.cq_import.specs.declared.content.Content.{Content}
use Rattle.cq_import.specs.declared.content.Content.TheVariants.{Blank, Wrong, Means}
use Rattle.cq_import.specs.declared.labels.Trouble.{Trouble}
use Rattle.cq_import.specs.declared.labels.Trouble.TheVariants as trouble
use Rattle.cq_import.specs.Cells.{Cell, Sheet, all_cells, cell_fault, cell_uses, cells_fault, column_fault, column_uses, content_fault, content_of, trouble_fault, uses_of}
use Rattle.cq_import.specs.Columns.{header}
use Rattle.cq_import.specs.Faults.{Fault, BadHeader, TooLarge, TooLong as LongFault, first_fault, or_else}
use Rattle.cq_import.specs.Folders.{name_of}
use Rattle.cq_import.specs.Imports.{fault_of, file_fault, files_fault, most_bytes, most_generators, reading_fault, sheet_of, sheets_fault, sheets_of, total}
use Rattle.cq_import.specs.Labels.{Labels, Room, uses_trouble, with_uses}
use Rattle.cq_import.specs.Records.{Record, records_of}
use Rattle.cq_import.specs.Rows.{id_of, row_fault, rows_fault, rows_of, same_record, sheet_fault}
use Rattle.cq_cells.specs.declared.readings.Reading.{Reading}
use Rattle.cq_cells.specs.declared.readings.Reading.TheVariants.{Absent, TooLong, Text}
use Rattle.cq_cells.specs.Found.{Found, behind_trouble, cells_found, found_in, rows_found, sheet_found}
use Rattle.cq_cells.specs.Readings.{AreReadings, IsReading, contents_found, file_found, files_found, first_of, folder_found, or_else_found, reading_at, reading_found, sheet_read, sheets_read, text_in}

first_one : (fault : Option Fault) (before : Option ℕ) → first_of (found_in fault before) ≡ fault
first_one None before = refl
first_one (Some f) before = refl

first_behind : (xs ys : List Found) → first_of (xs ++ ys) ≡ or_else (first_of xs) (first_of ys)
first_behind [] ys = refl
first_behind (x ∷ xs) ys = refl

first_then : (fault other : Option Fault) (before : Option ℕ) (others : List Found) → first_of others ≡ other → first_of (found_in fault before ++ others) ≡ or_else fault other
first_then fault other before others is = first_behind (found_in fault before) others ∙ (λ i. or_else (first_one fault before i) (is i))

first_rows : (file : List ℕ) (width : ℕ) (ids : List (List ℕ)) (number : ℕ) (rows : List Record) → first_of (rows_found file width ids number rows) ≡ rows_fault file width ids number rows
first_rows file width ids number [] = refl
first_rows file width ids number (fields ∷ rows) =
    first_then (row_fault file width ids number fields) (rows_fault file width (ids ++ id_of fields ∷ []) (number + 1) rows) (number_of ids (id_of fields))
    (rows_found file width (ids ++ id_of fields ∷ []) (number + 1) rows) (first_rows file width (ids ++ id_of fields ∷ []) (number + 1) rows)

first_sheet : (file : List ℕ) (wanted : Record) (rows : List Record) → first_of (sheet_found file wanted rows) ≡ sheet_fault file wanted rows
first_sheet file wanted [] = refl
first_sheet file wanted (first ∷ rows) = by (same_record first wanted)
  where
    by : (b : Bool) → first_of (if b then rows_found file (length wanted) [] 1 rows else found_in (Some (BadHeader file)) None)
        ≡ (if b then rows_fault file (length wanted) [] 1 rows else Some (BadHeader file))
    by true = first_rows file (length wanted) [] 1 rows
    by false = refl

-- a file that was read, and its text
short_passes : (file text : List ℕ) → length text ≤ most_bytes → reading_fault file (Some text) ≡ None
short_passes file text short =
    let fits : nat_lt most_bytes (length text) ≡ false = grind (arith, nat_tests) in
    ap (λ b. if b then Some (LongFault file) else None) fits

long_fails : (file text : List ℕ) → most_bytes < length text → reading_fault file (Some text) ≡ Some (LongFault file)
long_fails file text long =
    let fits : nat_lt most_bytes (length text) ≡ true = grind (arith, nat_tests) in
    ap (λ b. if b then Some (LongFault file) else None) fits

first_reading : (files : List File) (file : List ℕ) (wanted : Record) (reading : Reading) → IsReading files file reading
    → first_of (reading_found file wanted reading) ≡ or_else (reading_fault file (find_file file files)) (sheet_fault file wanted (records_of (unwrap_or (find_file file files) [])))
first_reading files file wanted Absent is =
    sym (ap (λ o. or_else (reading_fault file o) (sheet_fault file wanted (records_of (unwrap_or o [])))) is)
first_reading files file wanted TooLong is =
    sym (ap (λ o. or_else (reading_fault file o) (sheet_fault file wanted (records_of (unwrap_or o [])))) is.found
    ∙ ap (λ f. or_else f (sheet_fault file wanted (records_of is.content))) (long_fails file is.content is.longer))
first_reading files file wanted (Text text) is =
    first_sheet file wanted (records_of text.items)
    ∙ sym (ap (λ o. or_else (reading_fault file o) (sheet_fault file wanted (records_of (unwrap_or o [])))) is.0
    ∙ ap (λ f. or_else f (sheet_fault file wanted (records_of text.items))) (short_passes file text.items is.1))

-- over the numbers of a range
first_range : (f : ℕ → List Found) (g : ℕ → Option Fault) (a n : ℕ) → ((k : ℕ) → a ≤ k → k < a + n → first_of (f k) ≡ g k) → first_of (flat_map f (range_with_len a n)) ≡ first_fault (map g (range_with_len a n))
first_range f g a zero same = refl
first_range f g a (suc n) same =
    first_behind (f a) (flat_map f (range_with_len (a + 1) n))
    ∙ (λ i. or_else (same a (omega arith) (omega arith) i) (first_range f g (a + 1) n (λ k low high. same k (omega arith) (omega arith)) i))

front_none : (xs ys : List Found) → xs ++ ys ≡ [] → (xs ≡ []) × (ys ≡ [])
front_none [] ys none = (refl, none)
front_none (x ∷ xs) ys none = cc none

none_in : (f : ℕ → List Found) (a n : ℕ) → flat_map f (range_with_len a n) ≡ [] → (k : ℕ) → a ≤ k → k < a + n → f k ≡ []
none_in f a zero none k low high = absurd (omega arith)
none_in f a (suc n) none k low high =
    let both = front_none (f a) (flat_map f (range_with_len (a + 1) n)) none in
    elim (equal_or_more a k low) as (λ _. f k ≡ []) [
      | inl same ↦ ap f (sym same) ∙ both.0
      | inr more ↦ none_in f (a + 1) n both.1 k (omega arith) (omega arith)
    ]
  where
    equal_or_more : (x y : ℕ) → x ≤ y → (x ≡ y) ⊎ (x < y)
    equal_or_more x y le = grind arith

same_range : {X : Type 0} (f g : ℕ → X) (a n : ℕ) → ((k : ℕ) → a ≤ k → k < a + n → f k ≡ g k) → map f (range_with_len a n) ≡ map g (range_with_len a n)
same_range f g a zero same = refl
same_range f g a (suc n) same = λ i. same a (omega arith) (omega arith) i ∷ same_range f g (a + 1) n (λ k low high. same k (omega arith) (omega arith)) i

-- cells
troubled : (T : Typeside) (room : Room) (labels : Labels) (cell : Cell) (type : ℕ) (content : Content) (t : Trouble) → uses_trouble room labels (uses_of T type content) ≡ Some t
    → (fault : Fault) × (content_fault T room labels cell type content ≡ Some fault)
troubled T room labels cell type Blank t is = cc is
troubled T room labels cell type Wrong t is = cc is
troubled T room labels cell type (Means v) trouble.Wrong is = (_, ap (trouble_fault cell) is)
troubled T room labels cell type (Means v) trouble.Full is = (_, ap (trouble_fault cell) is)

column_troubled : (sheets : List Sheet) (T : Typeside) (room : Room) (labels : Labels) (cell : Cell) (column : Column) (t : Trouble) → uses_trouble room labels (column_uses T cell.field column) ≡ Some t
    → (fault : Fault) × (column_fault sheets T room labels cell column ≡ Some fault)
column_troubled sheets T room labels cell (Attribute a type) t is = troubled T room labels cell type (content_of T type cell.field) t is
column_troubled sheets T room labels cell (Key k target) t is = cc is

some_or_none : (o : Option Trouble) → (o ≡ None) ⊎ ((t : Trouble) × (o ≡ Some t))
some_or_none None = inl refl
some_or_none (Some t) = inr (t, refl)

first_cells : (sheets : List Sheet) (T : Typeside) (room : Room) (labels : Labels) (cells : List Cell) → first_of (cells_found sheets T room labels cells) ≡ cells_fault sheets T room labels cells
first_cells sheets T room labels [] = refl
first_cells sheets T room labels (cell ∷ cells) =
    let here = cell_fault sheets T room labels cell in
    let next = cells_found sheets T room (with_uses labels (cell_uses T cell)) cells in
    let later = cells_fault sheets T room (with_uses labels (cell_uses T cell)) cells in
    elim (some_or_none (uses_trouble room labels (cell_uses T cell))) as (λ _. first_of (found_in here None ++ behind_trouble (uses_trouble room labels (cell_uses T cell)) next) ≡ or_else here later) [
      | inl right ↦
          ap (λ o. first_of (found_in here None ++ behind_trouble o next)) right
          ∙ first_then here later None next (first_cells sheets T room (with_uses labels (cell_uses T cell)) cells)
      | inr wrong ↦
          let fault = column_troubled sheets T room labels cell cell.column wrong.0 wrong.1 in
          first_behind (found_in here None) (behind_trouble (uses_trouble room labels (cell_uses T cell)) next)
          ∙ ap (λ f. or_else f (first_of (behind_trouble (uses_trouble room labels (cell_uses T cell)) next))) (first_one here None ∙ fault.1)
          ∙ sym (ap (λ f. or_else f later) fault.1)
    ]

first_contents : (S : Schema) (sheets : List Sheet)
    → first_of (if nat_lt most_generators (total S sheets) then found_in (Some TooLarge) None
    else cells_found sheets S.typeside (Some (most_generators - total S sheets)) [] (all_cells S sheets)) ≡ sheets_fault S sheets
first_contents S sheets = by (nat_lt most_generators (total S sheets))
  where
    by : (b : Bool) → first_of (if b then found_in (Some TooLarge) None else cells_found sheets S.typeside (Some (most_generators - total S sheets)) [] (all_cells S sheets))
        ≡ or_else (if b then Some TooLarge else None) (cells_fault sheets S.typeside (Some (most_generators - total S sheets)) [] (all_cells S sheets))
    by true = refl
    by false = first_cells sheets S.typeside (Some (most_generators - total S sheets)) [] (all_cells S sheets)

-- a file without fault was read whole
text_is : (files : List File) (file : List ℕ) (wanted : Record) (reading : Reading) → IsReading files file reading → reading_found file wanted reading ≡ []
    → text_in reading ≡ unwrap_or (find_file file files) []
text_is files file wanted Absent is none = cc none
text_is files file wanted TooLong is none = cc none
text_is files file wanted (Text text) is none = ap (λ o. unwrap_or o []) (sym is.0)

module _ (files : List File) (dir : Name) (S : Schema) (readings : List Reading) (are : AreReadings files dir S readings) where
  abbrev name : ℕ → List ℕ
  name = name_of dir S

  first_files : first_of (files_found name S readings) ≡ files_fault files dir S (length S.entities)
  first_files =
      first_range (file_found name S readings) (file_fault files dir S) 0 (length S.entities)
      (λ k low high. first_reading files (name k) (header S k) (reading_at readings k) (are.each k (omega arith)))

  sheets_same : files_found name S readings ≡ [] → sheets_read name S readings ≡ sheets_of files dir S
  sheets_same none =
      same_range (sheet_read name S readings) (sheet_of files dir S) 0 (length S.entities)
      (λ k low high.
      let nothing = none_in (file_found name S readings) 0 (length S.entities) none k (omega arith) (omega arith) in
      ap (λ t. record { file = name k; rows = rows_of t }) (text_is files (name k) (header S k) (reading_at readings k) (are.each k (omega arith)) nothing))

  pub first_folder : first_of (folder_found name S readings) ≡ fault_of files dir S
  first_folder = by (files_found name S readings) refl
    where
      by : (found : List Found) → files_found name S readings ≡ found → first_of (or_else_found found (contents_found name S readings)) ≡ fault_of files dir S
      by [] is =
          first_contents S (sheets_read name S readings) ∙ ap (sheets_fault S) (sheets_same is)
          ∙ sym (ap (λ f. or_else f (sheets_fault S (sheets_of files dir S))) (sym first_files ∙ ap first_of is))
      by (x ∷ xs) is = sym (ap (λ f. or_else f (sheets_fault S (sheets_of files dir S))) (sym first_files ∙ ap first_of is))

pub first_of_front : (k : ℕ) (found : List Found) → first_of (take (suc k) found) ≡ first_of found
first_of_front k [] = refl
first_of_front k (x ∷ found) = refl

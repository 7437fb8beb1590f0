-- The files of an instance are read back as the canonical presentation of its tables.
use Rattle.std.proofs.Common.{ℕ, zero, suc, List, [], ◌∷◌, ◌++◌, Some, None, ◌≡◌, ◌<◌, ◌≤◌, ◌+◌, append-nil, cond, drop, filter, map, sum, length, refl, sym, ap, ◌∙◌, arith}
use Rattle.std.specs.Prelude.{codes, replicate, slice_index, unwrap_or}
use Rattle.std.specs.List.{flat_map, range_with_len}
use Rattle.std.proofs.lemmas.List.{length-map}
use Rattle.std.proofs.lemmas.List.FromFn.{length-range_with_len}
use Rattle.cq_base.specs.declared.name.Name.{Name}
use Rattle.cq_io.specs.Content.{File}
use Rattle.cq_theory.specs.declared.presentation.Sort.TheVariants.{Plain, Entity}
use Rattle.cq_theory.specs.TypesideData.{TypesideData as Typeside}
use Rattle.cq_theory.specs.Canonical.{below, canonical, entity_equations, named}
use Rattle.cq_theory.specs.Canonical as canonical
use Rattle.cq_instance.specs.InstanceData.{InstanceData, IsInstance}
use Rattle.cq_import.specs.Cells.{all_cells, cells_fault, equations_from}
use Rattle.cq_import.specs.Entries.{contents2_fault, entries_fault, entries_file, entries_text, entry_equations, equations2_of, fault2_of, given, imported2, is_null, labels2_of, lines_fault, mark, marked_fault, null_use, presented2, rest_fault, sheets2_fault, size2_fault}
use Rattle.cq_import.specs.Faults.{BadHeader, or_else}
use Rattle.cq_import.specs.Imports.{entity_sorts, reading_fault, row_sorts, total}
use Rattle.cq_import.specs.Labels.{Labels, Use}
use Rattle.cq_import.specs.Records.{Record, records_of}
use Rattle.cq_import.specs.Rows.{rows_of}
use Rattle.cq_import.proofs.Presented.{size_passes}
use Rattle.cq_csv.specs.Files.{algebra_records, entry_records, null_record, null_records}
use Rattle.cq_csv.specs.Records.{file_text}
use Rattle.cq_return.proofs.AllReadable.{AreReadable}
use Rattle.cq_return.proofs.AllSaid.{all_are}
use Rattle.cq_return.proofs.Entries.{entries_pass, entries_say, entry_lines_pass, no_null_fault, no_nulls}
use Rattle.cq_return.proofs.Fields.{same_header}
use Rattle.cq_return.proofs.Files.{HoldsAt, entries_found, files_pass, reading_passes, sheets_are}
use Rattle.cq_return.proofs.Given.{AreGiven, labels_for, labels_given, use_of}
use Rattle.cq_return.proofs.Nulls.{entries_after, lines_pass, no_equations, nulls_pass, uses_are}
use Rattle.cq_return.proofs.Said.{all_said, no_fault}
use Rattle.cq_return.proofs.Sheets.{by_places, count_is, rows_there, sheets, total_is}
use Rattle.cq_return.proofs.Written.{HaveFields, mark_back}

flat_same : {X : Type 0} (f g : ℕ → List X) (s n : ℕ) → ((k : ℕ) → s ≤ k → k < s + n → f k ≡ g k) → flat_map f (range_with_len s n) ≡ flat_map g (range_with_len s n)
flat_same f g s zero each = refl
flat_same f g s (suc n) each =
    let one = each s (omega arith) (omega arith) in
    let others = flat_same f g (s + 1) n (λ k low high. each k (omega arith) (omega arith)) in
    λ j. one j ++ others j

plain_uses : (f : ℕ → ℕ) (s n : ℕ) → map (λ (u : Use). Plain u.1) (map (use_of f) (range_with_len s n)) ≡ map Plain (map f (range_with_len s n))
plain_uses f s zero = refl
plain_uses f s (suc n) = ap (λ l. Plain (f s) ∷ l) (plain_uses f (s + 1) n)

module _ (dir : Name) (i : InstanceData) (is : IsInstance i) (returnable : AreReadable i) where
  abbrev T : Typeside
  T = i.schema.typeside

  abbrev nulls : List ℕ
  nulls = i.tables.algebra.nulls

  abbrev labels : Labels
  labels = labels_for i.tables.algebra.nulls

  abbrev lines : List Record
  lines = null_records i.schema.typeside i.tables.algebra.nulls ++ entry_records i.schema.typeside i.tables.algebra.entries

  few_nulls : length i.tables.algebra.nulls ≤ 16000000
  few_nulls = let few = returnable.few in omega arith

  are_given : AreGiven i.tables.algebra.nulls (labels_for i.tables.algebra.nulls)
  are_given = labels_given nulls

  whole : 0 + length i.tables.algebra.nulls ≤ length i.tables.algebra.nulls
  whole = omega arith

  -- the labels that are given are those of the nulls
  given_is : given i.schema.typeside lines ≡ labels_for i.tables.algebra.nulls
  given_is =
      uses_are T returnable.schema.typeside returnable.types nulls is.well_formed.nulls few_nulls (entry_records T i.tables.algebra.entries) 0 (length nulls) whole
      ∙ ap (λ l. labels ++ l) (no_nulls T i.tables.algebra.entries) ∙ append-nil labels

  null_count : length (filter is_null lines) ≡ length i.tables.algebra.nulls
  null_count =
      sym (length-map (filter is_null lines) (null_use T)) ∙ ap length given_is ∙ length-map (below (length nulls)) (use_of (slice_index nulls)) ∙ length-range_with_len 0 (length nulls)

  size_is_fine : size2_fault i.schema (sheets dir i) lines ≡ None
  size_is_fine =
      let few = returnable.few in
      size_passes (total i.schema (sheets dir i) + length (filter is_null lines)) (omega (arith, total_is dir i is.well_formed, null_count))

  cells_are_fine : cells_fault (sheets dir i) i.schema.typeside None (labels_for i.tables.algebra.nulls) (all_cells i.schema (sheets dir i)) ≡ None
  cells_are_fine = no_fault i.schema (sheets dir i) (sum i.tables.sheet.counts) labels (all_cells i.schema (sheets dir i))
      (flat_map (entity_equations i.schema i.tables) (below (length i.schema.entities))) (all_are dir i is returnable labels are_given)

  rest_is_fine : (file : List ℕ) → rest_fault i.schema (sheets dir i) lines (labels_for i.tables.algebra.nulls) file ≡ None
  rest_is_fine file =
      ap (λ f. or_else f (entries_fault T file labels 1 lines)) cells_are_fine
      ∙ entries_after T returnable.schema.typeside returnable.types nulls is.well_formed.nulls few_nulls file (entry_records T i.tables.algebra.entries) labels
      (entries_pass i.schema i.tables returnable.schema.typeside labels are_given file i.tables.algebra.entries is.well_formed.entries returnable.entries) 0 (length nulls) 1

  contents_are_fine : (file : List ℕ) → contents2_fault i.schema (sheets dir i) lines file ≡ None
  contents_are_fine file =
      ap (λ f. or_else f (rest_fault i.schema (sheets dir i) lines (labels2_of i.schema (sheets dir i) lines) file))
      (nulls_pass T returnable.schema.typeside returnable.types nulls is.well_formed.nulls few_nulls file (entry_records T i.tables.algebra.entries)
      (no_null_fault T file i.tables.algebra.entries) 0 (length nulls) 1 [] whole refl)
      ∙ ap (λ l. rest_fault i.schema (sheets dir i) lines l file) given_is ∙ rest_is_fine file

  pub sheets_are_fine : (file : List ℕ) → sheets2_fault i.schema (sheets dir i) lines file ≡ None
  sheets_are_fine file = ap (λ f. or_else f (contents2_fault i.schema (sheets dir i) lines file)) size_is_fine ∙ contents_are_fine file

  lines_are_fine : (file : List ℕ) → marked_fault file (mark ∷ lines) ≡ None
  lines_are_fine file =
      ap (λ b. cond b (lines_fault file 1 lines) (Some (BadHeader file))) (same_header mark mark refl)
      ∙ lines_pass T returnable.schema.typeside returnable.types nulls is.well_formed.nulls few_nulls file (entry_records T i.tables.algebra.entries)
      (entry_lines_pass i.schema i.tables returnable.schema.typeside labels are_given file i.tables.algebra.entries is.well_formed.entries returnable.entries) 0 (length nulls) 1 whole

  -- what is presented
  sorts_are : row_sorts i.schema (sheets dir i) ≡ flat_map (canonical.row_sorts i.schema i.tables) (below (length i.schema.entities))
  sorts_are = flat_same (entity_sorts (sheets dir i)) (canonical.row_sorts i.schema i.tables) 0 (length i.schema.entities)
      (λ entity low high. ap (λ n. replicate n (Entity entity)) (ap length (rows_there dir i entity (omega arith)) ∙ count_is dir i entity))

  nulls_are : map (λ (u : Use). Plain u.1) (labels_for i.tables.algebra.nulls) ≡ map Plain i.tables.algebra.nulls
  nulls_are = plain_uses (slice_index nulls) 0 (length nulls)
      ∙ ap (map Plain) (by_places (slice_index nulls) 0 nulls (λ k within. let here : 0 + k ≡ k = omega arith in ap (slice_index nulls) here))

  equations_are : equations2_of i.schema (sheets dir i) lines ≡ (canonical i.schema i.tables).equations
  equations_are =
      let first = total_is dir i is.well_formed in
      let cells : equations_from (sheets dir i) T (sum i.tables.sheet.counts) labels (all_cells i.schema (sheets dir i)) ≡ flat_map (entity_equations i.schema i.tables) (below (length i.schema.entities)) =
      all_said i.schema (sheets dir i) (sum i.tables.sheet.counts) labels (all_cells i.schema (sheets dir i)) (flat_map (entity_equations i.schema i.tables) (below (length i.schema.entities)))
      (all_are dir i is returnable labels are_given) in
      let entries : flat_map (entry_equations T (sum i.tables.sheet.counts) labels) lines ≡ map (canonical.entry_equation i.schema i.tables) i.tables.algebra.entries =
      no_equations T returnable.schema.typeside returnable.types nulls is.well_formed.nulls few_nulls (sum i.tables.sheet.counts) labels (entry_records T i.tables.algebra.entries) 0 (length nulls)
      ∙ entries_say i.schema i.tables returnable.schema.typeside labels are_given i.tables.algebra.entries is.well_formed.entries returnable.entries in
      (λ j. equations_from (sheets dir i) T (first j) (given_is j) (all_cells i.schema (sheets dir i)) ++ flat_map (entry_equations T (first j) (given_is j)) lines)
      ∙ (λ j. cells j ++ entries j)

  pub presented_is : presented2 i.schema (sheets dir i) lines ≡ canonical i.schema i.tables
  presented_is =
      let plain : map (λ (u : Use). Plain u.1) (given T lines) ≡ map Plain nulls = ap (map (λ (u : Use). Plain u.1)) given_is ∙ nulls_are in
      λ j. record { generators = named (sorts_are j ++ plain j); equations = equations_are j }

  have_lines : (rest : List Record) (s n : ℕ) → HaveFields rest → HaveFields (map (λ label. null_record i.schema.typeside label (slice_index i.tables.algebra.nulls label)) (range_with_len s n) ++ rest)
  have_lines rest s zero have = have
  have_lines rest s (suc n) have = have_lines rest (s + 1) n have

  have_entries : (es : List _) → HaveFields (entry_records i.schema.typeside es)
  have_entries [] = tt
  have_entries (e ∷ es) = have_entries es

  -- the records that are read of the file with the nulls and the entries
  lines_read : records_of (file_text (algebra_records i)) ≡ mark ∷ lines
  lines_read = mark_back (codes "left" ∷ codes "right" ∷ []) lines (have_lines (entry_records T i.tables.algebra.entries) 0 (length nulls) (have_entries i.tables.algebra.entries))

  module _ (files : List File) (holds : HoldsAt files dir i) where
    text_read : records_of (unwrap_or (entries_text files dir) []) ≡ mark ∷ lines
    text_read = ap (λ o. records_of (unwrap_or o [])) (entries_found dir i files holds) ∙ lines_read

    rest_read : rows_of (unwrap_or (entries_text files dir) []) ≡ lines
    rest_read = ap (drop 1) text_read

    pub no_fault_in : fault2_of files dir i.schema ≡ None
    no_fault_in =
        let file = entries_file dir in
        let sheets_read = sheets_are dir i is returnable files holds labels are_given in
        let reading : reading_fault file (entries_text files dir) ≡ None =
        ap (reading_fault file) (entries_found dir i files holds) ∙ reading_passes file (file_text (algebra_records i)) returnable.short_algebra in
        (λ j. or_else (files_pass dir i is returnable files holds labels are_given j)
        (or_else (reading j) (or_else (marked_fault file (text_read j)) (sheets2_fault i.schema (sheets_read j) (rest_read j) file))))
        ∙ ap (λ f. or_else f (sheets2_fault i.schema (sheets dir i) lines file)) (lines_are_fine file) ∙ sheets_are_fine file

    pub returned : imported2 files dir i.schema ≡ canonical i.schema i.tables
    returned = (λ j. presented2 i.schema (sheets_are dir i is returnable files holds labels are_given j) (rest_read j)) ∙ presented_is

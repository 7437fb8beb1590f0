-- The sheets of the files that were read, and their tables of ids.
use Rattle.std.proofs.Common.{ℕ, List, [], ◌∷◌, ◌<◌, ◌≡◌, Some, length, map, get_or, sym, ap, ◌∙◌, arith}
use Rattle.std.specs.Prelude.{slice_get, unwrap_or}
use Rattle.std.specs.Map.{lookup}
use Rattle.std.proofs.lemmas.List.{ext_get_or, get_or-map, length-map}
use Rattle.std.proofs.lemmas.List.FromFn.{get_or-map-range_with_len, length-map-range_with_len}
use Rattle.std.proofs.lemmas.Option.{slice_get-get_or}
use Rattle.cq_base.specs.Names.{number_of, same_name}
use Rattle.cq_theory.specs.SchemaData.{SchemaData as Schema}
use Rattle.cq_import.specs.declared.columns.Column.{Column}
use Rattle.cq_import.specs.Cells.{Sheet, counts, entity_cells, file_in, row_with_id, rows_at, rows_cells, rows_in, start_of}
use Rattle.cq_import.specs.Columns.{columns}
use Rattle.cq_import.specs.Records.{Record}
use Rattle.cq_import.specs.Rows.{ids_of, rows_of}
use Rattle.cq_cells.specs.declared.index.Indexed.{Indexed}
use Rattle.cq_cells.specs.declared.readings.Reading.{Reading}
use Rattle.cq_cells.specs.declared.readings.Reading.TheVariants.{Absent}
use Rattle.cq_cells.specs.Index.{AreIndexed}
use Rattle.cq_cells.specs.Readings.{reading_at, sheet_read, sheets_read, text_in}

-- a reading at its place
pub reading_is : (readings : List Reading) (entity : ℕ) (reading : Reading) → entity < length readings → reading ≡ get_or readings entity reading → reading_at readings entity ≡ reading
reading_is readings entity reading within is = ap (λ o. unwrap_or o Absent) (slice_get-get_or readings entity reading within) ∙ sym is

module _ (name : ℕ → List ℕ) (S : Schema) (readings : List Reading) where
  no_sheet : Sheet
  no_sheet = record { file = []; rows = [] }

  pub length-sheets : length (sheets_read name S readings) ≡ length S.entities
  length-sheets = length-map-range_with_len (sheet_read name S readings) 0 (length S.entities)

  module _ (entity : ℕ) (within : entity < length S.entities) where
    pub sheet_at : (d : Sheet) → get_or (sheets_read name S readings) entity d ≡ sheet_read name S readings entity
    sheet_at d = get_or-map-range_with_len (sheet_read name S readings) 0 (length S.entities) entity entity d within (omega arith)

    pub sheet_here : slice_get (sheets_read name S readings) entity ≡ Some (sheet_read name S readings entity)
    sheet_here = slice_get-get_or (sheets_read name S readings) entity no_sheet (omega (arith, length-sheets)) ∙ ap Some (sheet_at no_sheet)

    pub rows_here : rows_at (sheets_read name S readings) entity ≡ rows_of (text_in (reading_at readings entity))
    rows_here = ap rows_in sheet_here

    pub cells_here : (found : List Column) (text : List ℕ) → found ≡ columns S entity → text ≡ text_in (reading_at readings entity)
        → rows_cells (name entity) found (start_of (sheets_read name S readings) entity) 1 (rows_of text) ≡ entity_cells S (sheets_read name S readings) entity
    cells_here found text columned is =
        let start = start_of (sheets_read name S readings) entity in
        ap (λ (c : List Column). rows_cells (name entity) c start 1 (rows_of text)) columned
        ∙ ap (λ t. rows_cells (name entity) (columns S entity) start 1 (rows_of t)) is
        ∙ ap (λ (r : List Record). rows_cells (name entity) (columns S entity) start 1 r) (sym rows_here)
        ∙ ap (λ o. rows_cells (file_in o) (columns S entity) start 1 (rows_at (sheets_read name S readings) entity)) (sym sheet_here)

  module _ (made : List Indexed) (readings_many : length readings ≡ length S.entities) (indexed : AreIndexed readings made) where
    -- the record with an id
    pub row_found : (entity : ℕ) (one : Indexed) (id : List ℕ) → entity < length S.entities → one ≡ get_or made entity one
        → lookup (same_name id) one.places ≡ row_with_id (sheets_read name S readings) entity id
    row_found entity one id within is =
        let inside : entity < length readings = omega arith in
        ap (λ (i : Indexed). lookup (same_name id) i.places) is ∙ (indexed.each entity one inside).places.finds id
        ∙ ap (λ (rows : List Record). number_of (ids_of rows) id) (sym (rows_here entity within))

    count_at : (entity : ℕ) (one : Indexed) → entity < length S.entities → (get_or made entity one).count ≡ length (rows_at (sheets_read name S readings) entity)
    count_at entity one within =
        let inside : entity < length readings = omega arith in
        (indexed.each entity one inside).count ∙ ap (λ (r : List Record). length r) (sym (rows_here entity within))

    -- how many records each file has
    pub counts_are : map (λ (i : Indexed). i.count) made ≡ counts (sheets_read name S readings)
    counts_are =
        ext_get_or 0 (map (λ (i : Indexed). i.count) made) (counts (sheets_read name S readings))
        (length-map made (λ (i : Indexed). i.count) ∙ indexed.many ∙ readings_many ∙ sym length-sheets ∙ sym (length-map (sheets_read name S readings) (λ (s : Sheet). length s.rows)))
        (λ entity less.
        let inside : entity < length made = omega (arith, length-map made (λ (i : Indexed). i.count)) in
        let within : entity < length S.entities = omega (arith, indexed.many) in
        let sheeted : entity < length (sheets_read name S readings) = omega (arith, length-sheets) in
        item made entity inside
        ∙ sym (get_or-map (λ (s : Sheet). length s.rows) (sheets_read name S readings) entity no_sheet 0 sheeted
        ∙ ap (λ (s : Sheet). length s.rows) (sheet_at entity within no_sheet)
        ∙ ap (λ (r : List Record). length r) (sym (rows_here entity within))
        ∙ sym (count_there made entity inside within)))
      where
        some_of : (l : List Indexed) (k : ℕ) → k < length l → Indexed
        some_of [] k within = absurd (omega arith)
        some_of (x ∷ l) k within = x

        item : (l : List Indexed) (k : ℕ) (inside : k < length l) → get_or (map (λ (i : Indexed). i.count) l) k 0 ≡ (get_or l k (some_of l k inside)).count
        item l k inside = get_or-map (λ (i : Indexed). i.count) l k (some_of l k inside) 0 inside

        count_there : (l : List Indexed) (k : ℕ) (inside : k < length l) → k < length S.entities → (get_or made k (some_of l k inside)).count ≡ length (rows_at (sheets_read name S readings) k)
        count_there l k inside within = count_at k (some_of l k inside) within

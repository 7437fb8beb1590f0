-- Cells that are read one after the other.
use Rattle.std.proofs.Common.{ℕ, List, [], ◌∷◌, ◌++◌, ◌+◌, ◌≤◌, ◌≡◌, ◌<◌, ◌-◌, suc, length, map, drop, get_or, refl, sym, ap, ◌∙◌, append_assoc, add-one, drop-cons, arith}
use Rattle.std.specs.List.{flat_map, enumerate_from, range_with_len}
use Rattle.std.proofs.lemmas.List.{append-nil, drop_all, get_or_default}
use Rattle.cq_theory.specs.TypesideData.{TypesideData as Typeside}
use Rattle.cq_import.specs.declared.cells.Cell.{Cell as RustCell}
use Rattle.cq_import.specs.declared.columns.Column.{Column}
use Rattle.cq_import.specs.declared.cells.Context.{Context}
use Rattle.cq_import.specs.declared.cells.Made.{Made}
use Rattle.cq_import.specs.declared.refusal.CsvRefusal.{CsvRefusal}
use Rattle.cq_import.specs.Cells.{Cell, Sheet, cell_equations, cell_fault, cell_in, cell_uses, cells_fault, equations_from}
use Rattle.cq_import.specs.Context.{Reads, ReadsCell, faults_in, sheets_in, shown_cell, typeside_in}
use Rattle.cq_import.specs.Faults.{Tells, or_else}
use Rattle.cq_import.specs.Labels.{Labels, Room, with_uses}
use Rattle.cq_import.specs.Records.{Record, field_in}
use Rattle.cq_import.proofs.Faulty.{after_none, or_else-assoc, refuses_first, refuses_same}
use Rattle.cq_import.proofs.Uses.{with_uses-append}

pub flat_map-joined : {X Y : Type 0} (f : X → List Y) (xs ys : List X) → flat_map f (xs ++ ys) ≡ flat_map f xs ++ flat_map f ys
flat_map-joined f [] ys = refl
flat_map-joined f (x ∷ xs) ys = ap (λ l. f x ++ l) (flat_map-joined f xs ys) ∙ sym (append_assoc (f x) (flat_map f xs) (flat_map f ys))

module _ (sheets : List Sheet) (T : Typeside) (room : Room) (first : ℕ) where
  abbrev after : Labels → List Cell → Labels
  after labels cells = with_uses labels (flat_map (cell_uses T) cells)

  one_after : (labels : Labels) (cell : Cell) (cells : List Cell) → after labels (cell ∷ cells) ≡ after (with_uses labels (cell_uses T cell)) cells
  one_after labels cell cells = with_uses-append labels (cell_uses T cell) (flat_map (cell_uses T) cells)

  cells_fault-append : (labels : Labels) (xs ys : List Cell) → cells_fault sheets T room labels (xs ++ ys) ≡ or_else (cells_fault sheets T room labels xs) (cells_fault sheets T room (after labels xs) ys)
  cells_fault-append labels [] ys = refl
  cells_fault-append labels (x ∷ xs) ys =
      ap (or_else (cell_fault sheets T room labels x)) (cells_fault-append (with_uses labels (cell_uses T x)) xs ys)
      ∙ sym (or_else-assoc (cell_fault sheets T room labels x) (cells_fault sheets T room (with_uses labels (cell_uses T x)) xs) (cells_fault sheets T room (after (with_uses labels (cell_uses T x)) xs) ys))
      ∙ ap (λ l. or_else (cells_fault sheets T room labels (x ∷ xs)) (cells_fault sheets T room l ys)) (sym (one_after labels x xs))

  equations_from-append : (labels : Labels) (xs ys : List Cell) → equations_from sheets T first labels (xs ++ ys) ≡ equations_from sheets T first labels xs ++ equations_from sheets T first (after labels xs) ys
  equations_from-append labels [] ys = refl
  equations_from-append labels (x ∷ xs) ys =
      let next = with_uses labels (cell_uses T x) in
      let here = cell_equations sheets T first next x in
      ap (λ l. here ++ l) (equations_from-append next xs ys)
      ∙ sym (append_assoc here (equations_from sheets T first next xs) (equations_from sheets T first (after next xs) ys))
      ∙ ap (λ l. equations_from sheets T first labels (x ∷ xs) ++ equations_from sheets T first l ys) (sym (one_after labels x xs))

  after-append : (labels : Labels) (xs ys : List Cell) → after labels (xs ++ ys) ≡ after (after labels xs) ys
  after-append labels xs ys = ap (with_uses labels) (flat_map-joined (cell_uses T) xs ys) ∙ with_uses-append labels (flat_map (cell_uses T) xs) (flat_map (cell_uses T) ys)

-- so far no cell is wrong, and the others are left
pub record AreReading (context : Context) (old now : Made) (whole rest : List Cell) : Type 0 where
  pub fault : faults_in context old whole ≡ faults_in context now rest
  pub labels : with_uses old.labels (flat_map (cell_uses (typeside_in context)) whole) ≡ with_uses now.labels (flat_map (cell_uses (typeside_in context)) rest)
  pub equations :
      old.equations.items ++ equations_from (sheets_in context) (typeside_in context) context.first old.labels whole
      ≡ now.equations.items ++ equations_from (sheets_in context) (typeside_in context) context.first now.labels rest

pub reads_one : (context : Context) (old new : Made) (cell : Cell) → ReadsCell context old new cell → Reads context old new (cell ∷ [])
reads_one context old new cell reads =
    let T = typeside_in context in
    record {
      fault = after_none _ _ reads.fault;
      labels = reads.labels ∙ ap (with_uses old.labels) (sym (append-nil (cell_uses T cell)));
      equations =
          reads.equations ∙ ap (λ l. old.equations.items ++ cell_equations (sheets_in context) T context.first l cell) reads.labels
          ∙ ap (λ l. old.equations.items ++ l) (sym (append-nil (cell_equations (sheets_in context) T context.first (with_uses old.labels (cell_uses T cell)) cell)));
    }

module _ (context : Context) (old now : Made) (whole rest : List Cell) (reading : AreReading context old now whole rest) where
  pub reading_refused : (first behind : List Cell) (r : CsvRefusal) → rest ≡ first ++ behind → Tells r (faults_in context now first) → Tells r (faults_in context old whole)
  reading_refused first behind r is refuses =
      let same = reading.fault ∙ ap (faults_in context now) is ∙ cells_fault-append (sheets_in context) (typeside_in context) context.room context.first now.labels first behind in
      refuses_same r _ _ (sym same) (refuses_first r (faults_in context now first) _ refuses)

  pub reading_more : (new : Made) (first behind : List Cell) → rest ≡ first ++ behind → Reads context now new first → AreReading context old new whole behind
  reading_more new first behind is reads =
      let sheets = sheets_in context in
      let T = typeside_in context in
      record {
        fault =
            reading.fault ∙ ap (faults_in context now) is ∙ cells_fault-append sheets T context.room context.first now.labels first behind
            ∙ after_none _ _ reads.fault ∙ ap (λ l. cells_fault sheets T context.room l behind) (sym reads.labels);
        labels =
            reading.labels ∙ ap (λ cells. with_uses now.labels (flat_map (cell_uses T) cells)) is
            ∙ after-append sheets T context.room context.first now.labels first behind ∙ ap (λ l. with_uses l (flat_map (cell_uses T) behind)) (sym reads.labels);
        equations =
            reading.equations
            ∙ ap (λ cells. now.equations.items ++ equations_from sheets T context.first now.labels cells) is
            ∙ ap (λ l. now.equations.items ++ l) (equations_from-append sheets T context.room context.first now.labels first behind)
            ∙ sym (append_assoc now.equations.items (equations_from sheets T context.first now.labels first) _)
            ∙ ap (λ l. l ++ equations_from sheets T context.first (with_uses now.labels (flat_map (cell_uses T) first)) behind) (sym reads.equations)
            ∙ ap (λ l. new.equations.items ++ equations_from sheets T context.first l behind) (sym reads.labels);
      }

  pub reading_all : rest ≡ [] → Reads context old now whole
  reading_all none =
      let T = typeside_in context in
      record {
        fault = reading.fault ∙ ap (faults_in context now) none;
        labels = sym (reading.labels ∙ ap (λ cells. with_uses now.labels (flat_map (cell_uses T) cells)) none);
        equations =
            sym (reading.equations ∙ ap (λ cells. now.equations.items ++ equations_from (sheets_in context) T context.first now.labels cells) none ∙ append-nil now.equations.items);
      }

pub reading_start : (context : Context) (old : Made) (whole : List Cell) → AreReading context old old whole whole
reading_start context old whole = record { fault = refl; labels = refl; equations = refl }

-- the cells of a record from a column on
abbrev pub row_rest : List ℕ → List Column → ℕ → ℕ → Record → ℕ → List Cell
row_rest file columns generator number fields place = map (cell_in file generator number fields) (enumerate_from (place + 2) (drop place columns))

module _ (file : List ℕ) (columns : List Column) (generator number : ℕ) (fields : Record) (place : ℕ) where
  pub row_rest-more : (column : Column) → place < length columns → column ≡ get_or columns place column
      → row_rest file columns generator number fields place ≡ (cell_in file generator number fields (place + 2, column) ∷ []) ++ row_rest file columns generator number fields (place + 1)
  row_rest-more column within is =
      let g = cell_in file generator number fields in
      let next : place + 2 + 1 ≡ place + 1 + 2 = omega arith in
      ap (λ l. map g (enumerate_from (place + 2) l)) (drop-cons columns place column within)
      ∙ ap (λ (c : Column). g (place + 2, c) ∷ map g (enumerate_from (place + 2 + 1) (drop (suc place) columns))) (sym is)
      ∙ ap (λ n. g (place + 2, column) ∷ map g (enumerate_from n (drop (suc place) columns))) next
      ∙ ap (λ n. g (place + 2, column) ∷ map g (enumerate_from (place + 1 + 2) (drop n columns))) (sym (add-one place))

  pub row_rest-end : length columns ≤ place → row_rest file columns generator number fields place ≡ []
  row_rest-end past = ap (λ l. map (cell_in file generator number fields) (enumerate_from (place + 2) l)) (drop_all place columns past)

  -- a cell of the program in its column
  pub same_cell : (cell : RustCell) (column : Column) → cell.file.now ≡ file → cell.row_number ≡ number → cell.column_number ≡ place + 2 → cell.generator ≡ generator → cell.column ≡ column
      → cell.field.now ≡ field_in fields (place + 1) → shown_cell cell ≡ cell_in file generator number fields (place + 2, column)
  same_cell cell column a b c d e f =
      let less : place + 1 ≡ place + 2 - 1 = omega arith in
      let field : cell.field.now ≡ field_in fields (place + 2 - 1) = f ∙ ap (field_in fields) less in
      λ i. record { file = a i; row_number = b i; column_number = c i; generator = d i; column = e i; field = field i }

-- a list's item is the same whatever stands for none
pub same_default : (columns : List Column) (place : ℕ) (d : Column) → place < length columns → get_or columns place d ≡ get_or columns place (get_or columns place d)
same_default columns place d within = get_or_default columns place d (get_or columns place d) within

-- the cells of the entities from one on
pub entities_left : (cells : ℕ → List Cell) (n entity : ℕ) → entity < n → flat_map cells (range_with_len entity (n - entity)) ≡ cells entity ++ flat_map cells (range_with_len (entity + 1) (n - (entity + 1)))
entities_left cells n entity within =
    let some : n - entity ≡ suc (n - (entity + 1)) = omega arith in
    ap (λ m. flat_map cells (range_with_len entity m)) some

pub entities_end : (cells : ℕ → List Cell) (n entity : ℕ) → n ≤ entity → flat_map cells (range_with_len entity (n - entity)) ≡ []
entities_end cells n entity past =
    let none : n - entity ≡ 0 = omega arith in
    ap (λ m. flat_map cells (range_with_len entity m)) none

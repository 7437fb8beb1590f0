-- The answers of an import, over the files that a folder tells, or over those that were read.
use Rattle.std.proofs.Common.{ℕ, List, [], ◌∷◌, ◌++◌, ◌-◌, ◌<◌, ◌≤◌, ◌≡◌, ◌⊎◌, Option, Some, None, Result, Ok, Err, inl, inr, length, map, sym, subst, arith}
use Rattle.std.specs.Prelude.{IfOk, OnOk, IfErr}
use Rattle.cq_base.specs.declared.name.Name.{Name}
use Rattle.cq_io.specs.Content.{File}
use Rattle.cq_theory.specs.declared.presentation.Presentation.{Presentation}
use Rattle.cq_theory.specs.SchemaData.{SchemaData as Schema}
use Rattle.cq_theory.specs.Schema.{IsSchema}
use Rattle.cq_theory.specs.TypesideData.{TypesideData as Typeside}
use Rattle.cq_import.specs.declared.cells.Context.{Context}
use Rattle.cq_import.specs.declared.columns.Column.{Column}
use Rattle.cq_import.specs.declared.columns.Column.TheVariants.{Attribute, Key}
use Rattle.cq_import.specs.declared.content.Content.{Content}
use Rattle.cq_import.specs.declared.content.Content.TheVariants.{Blank, Wrong, Means}
use Rattle.cq_import.specs.declared.entity_file.EntityFile.{EntityFile}
use Rattle.cq_import.specs.declared.labels.Trouble.{Trouble}
use Rattle.cq_import.specs.declared.labels.Trouble.TheVariants as trouble
use Rattle.cq_import.specs.declared.refusal.CsvRefusal.{CsvRefusal}
use Rattle.cq_import.specs.declared.refusal.CsvRefusal.TheVariants as refusal
use Rattle.cq_import.specs.Cells.{Cell, Sheet, all_cells, cell_fault, cell_uses, cells_fault, column_fault, content_fault, content_of, key_fault, missing_id, row_with_id, trouble_fault}
use Rattle.cq_import.specs.Context.{sheet_in}
use Rattle.cq_import.specs.Faults.{Fault, Tells, TooLarge}
use Rattle.cq_import.specs.Folders.{AreRead, Stops}
use Rattle.cq_import.specs.Imports.{IsImport, OfFiles, presented, sheets_fault, size_fault, total}
use Rattle.cq_import.specs.Labels.{Labels, Room, uses_in, uses_trouble, with_uses}
use Rattle.cq_import.proofs.FolderReads.{NoRead, if_no_read, or_no_read}
use Rattle.cq_import.proofs.Imported.{answered, stopped}
use Rattle.cq_import.proofs.OfFiles.{of_files}
use Rattle.cq_import.proofs.Untold.{pair_of, settled, settled_refused}

trouble_no_read : (cell : Cell) (t : Option Trouble) → NoRead (trouble_fault cell t)
trouble_no_read cell None = tt
trouble_no_read cell (Some trouble.Wrong) = tt
trouble_no_read cell (Some trouble.Full) = tt

content_no_read : (T : Typeside) (room : Room) (labels : Labels) (cell : Cell) (type : ℕ) (c : Content) → NoRead (content_fault T room labels cell type c)
content_no_read T room labels cell type Blank = tt
content_no_read T room labels cell type Wrong = tt
content_no_read T room labels cell type (Means v) = trouble_no_read cell (uses_trouble room labels (uses_in T v type))

missing_no_read : (cell : Cell) (o : Option ℕ) → NoRead (missing_id cell o)
missing_no_read cell None = tt
missing_no_read cell (Some row) = tt

key_no_read : (sheets : List Sheet) (cell : Cell) (target : ℕ) (field : List ℕ) → NoRead (key_fault sheets cell target field)
key_no_read sheets cell target [] = tt
key_no_read sheets cell target (first ∷ rest) = missing_no_read cell (row_with_id sheets target (first ∷ rest))

column_no_read : (sheets : List Sheet) (T : Typeside) (room : Room) (labels : Labels) (cell : Cell) (c : Column) → NoRead (column_fault sheets T room labels cell c)
column_no_read sheets T room labels cell (Attribute a type) = content_no_read T room labels cell type (content_of T type cell.field)
column_no_read sheets T room labels cell (Key k target) = key_no_read sheets cell target cell.field

pub cells_no_read : (sheets : List Sheet) (T : Typeside) (room : Room) (labels : Labels) (cells : List Cell) → NoRead (cells_fault sheets T room labels cells)
cells_no_read sheets T room labels [] = tt
cells_no_read sheets T room labels (cell ∷ cells) =
    or_no_read (cell_fault sheets T room labels cell) _ (column_no_read sheets T room labels cell cell.column) (cells_no_read sheets T room (with_uses labels (cell_uses T cell)) cells)

pub sheets_no_read : (S : Schema) (sheets : List Sheet) → NoRead (sheets_fault S sheets)
sheets_no_read S sheets = or_no_read (size_fault (total S sheets)) _ (if_no_read _ (Some TooLarge) None tt tt) (cells_no_read sheets S.typeside (Some (16000000 - total S sheets)) [] (all_cells S sheets))

pub answer_presents : (files : Option (List File)) (dir : Name) (S : Schema) → IsSchema S → (made : List EntityFile) → AreRead dir S files made → length made ≡ length S.entities → (result : Result Presentation CsvRefusal)
    → OnOk result (sheets_fault S (map sheet_in made) ≡ None) → IfOk result (λ p. p ≡ presented S (map sheet_in made)) → IfErr result (λ r. Tells r (sheets_fault S (map sheet_in made)))
    → OfFiles files (λ f. IsImport f dir S result)
answer_presents (Some files) dir S schema made read few result passed is refused = answered files dir S made read few result passed is refused (sheets_no_read S (map sheet_in made))
answer_presents None dir S schema made read few result passed is refused =
    (map (pair_of dir S schema) made ++ [], answered (map (pair_of dir S schema) made ++ []) dir S made (settled dir S schema made read (omega arith) []) few result passed is refused (sheets_no_read S (map sheet_in made)))

pub answer_refuses : (files : Option (List File)) (dir : Name) (S : Schema) → IsSchema S → (r : CsvRefusal) → (r ≡ refusal.Memory) ⊎ Stops dir S files r → OfFiles files (λ f. IsImport f dir S (Err r))
answer_refuses files dir S schema r (inl memory) = of_files files _ (λ f. subst (λ q. IsImport f dir S (Err q)) (sym memory) tt)
answer_refuses (Some files) dir S schema r (inr stops) = stopped files dir S stops.made stops.read stops.within r stops.refused
answer_refuses None dir S schema r (inr stops) =
    let few : length stops.made ≤ length S.entities = omega (arith, stops.within) in
    let found = settled_refused dir S schema stops.made stops.read few r stops.within stops.refused in
    (map (pair_of dir S schema) stops.made ++ found.0, stopped (map (pair_of dir S schema) stops.made ++ found.0) dir S stops.made (settled dir S schema stops.made stops.read few found.0) stops.within r found.1)

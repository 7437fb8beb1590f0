-- Texts of what is noted of a told step.
use Rattle.std.specs.Prelude.{ℕ, List, [], ◌++◌, ◌+◌, Option, Some, None, codes, decimal, slice_get}
use Rattle.cq_base.specs.declared.name.Name.{Name}
use Rattle.cq_base.specs.declared.place.Place.{Place}
use Rattle.cq_theory.specs.declared.schema.Edge.{Edge}
use Rattle.cq_theory.specs.SchemaData.{SchemaData as Schema}
use Rattle.cq_import.specs.declared.columns.Column.{Column}
use Rattle.cq_import.specs.declared.columns.Column.TheVariants.{Attribute, Key}
use Rattle.cq_origin.specs.declared.cells.CellPlace.{CellPlace}

-- a place of the text
abbrev pub place_text : Place → List ℕ
place_text place = codes "line " ++ decimal place.line ++ codes ", column " ++ decimal place.col

abbrev pub edge_text : Option Edge → List ℕ
edge_text None = []
edge_text (Some edge) = edge.name

abbrev pub column_text : Schema → Column → List ℕ
column_text S (Attribute a type) = edge_text (slice_get S.attributes a)
column_text S (Key k target) = edge_text (slice_get S.keys k)

abbrev pub entity_text : Option Name → List ℕ
entity_text None = []
entity_text (Some name) = name

-- the file of an entity in a folder
abbrev pub file_text : Name → Schema → ℕ → List ℕ
file_text dir S entity = dir ++ codes "/" ++ entity_text (slice_get S.entities entity) ++ codes ".csv"

-- the line where it is known, and else the number of the record
abbrev pub line_text : Option ℕ → ℕ → List ℕ
line_text None number = codes "record " ++ decimal number
line_text (Some line) number = codes "line " ++ decimal line

-- a cell: its file, its line, and the name of its column
abbrev pub cell_text : Name → Schema → CellPlace → Option ℕ → List ℕ
cell_text dir S place line =
    file_text dir S place.entity ++ codes ", " ++ line_text line place.record_number ++ codes ", column " ++ column_text S place.column

-- a row of tables that no file has: its entity, its number, and the name of the column
abbrev pub row_text : Schema → CellPlace → List ℕ
row_text S place =
    codes "row " ++ decimal place.record_number ++ codes " of " ++ entity_text (slice_get S.entities place.entity) ++ codes ", column "
    ++ column_text S place.column

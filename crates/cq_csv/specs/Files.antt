-- The files of an instance: one with the rows of each entity, and one with the nulls and the entries.
use Rattle.std.specs.Prelude.{ℕ, List, [], ◌∷◌, ◌++◌, ◌+◌, map, length, slice_get, slice_index, codes, decimal}
use Rattle.cq_base.specs.declared.name.Name.{Name}
use Rattle.cq_theory.specs.declared.schema.Edge.{Edge}
use Rattle.cq_theory.specs.TypesideData.{TypesideData as Typeside}
use Rattle.cq_theory.specs.declared.value.Value.{Value}
use Rattle.cq_theory.specs.declared.value.Value.TheVariants.{Const, Null}
use Rattle.cq_theory.specs.declared.value.Entry.{Entry}
use Rattle.cq_theory.specs.Tables.{count_of, key_at, cell_at}
use Rattle.cq_theory.specs.Canonical.{below}
use Rattle.cq_theory.specs.ValueText.{value_text, null_text, application_text, function_name}
use Rattle.cq_instance.specs.InstanceData.{InstanceData}
use Rattle.cq_text.specs.Grouped.{numbers_from}
use Rattle.cq_text.specs.Literal.{content_of}
use Rattle.cq_text.specs.Transcript.{edge_name, name_or_empty}
use Rattle.cq_csv.specs.Records.{file_text}

-- what stands for a value in an attribute's column: a constant as it is, a null by its label, a built value behind `=`
abbrev pub cell_field : Typeside → Value → List ℕ
cell_field T (Const c) = content_of T c
cell_field T (Null n) = null_text n
cell_field T value = codes "=" ++ value_text T value

-- the names of the edges with these numbers
abbrev pub names_of : List Edge → List ℕ → List (List ℕ)
names_of edges numbers = map (λ n. edge_name (slice_get edges n)) numbers

-- a null by its label, with its type
abbrev pub null_record : Typeside → ℕ → ℕ → List (List ℕ)
null_record T label type = codes "null" ∷ null_text label ∷ name_or_empty (slice_get T.types type) ∷ []

-- a function at its arguments, with the value that it has there
abbrev pub entry_record : Typeside → Entry → List (List ℕ)
entry_record T entry =
    codes "entry"
    ∷ application_text (function_name (slice_get T.functions entry.function)) (map (value_text T) entry.args)
    ∷ value_text T entry.value ∷ []

-- the nulls with these types
abbrev pub null_records : Typeside → List ℕ → List (List (List ℕ))
null_records T types = map (λ label. null_record T label (slice_index types label)) (below (length types))

abbrev pub entry_records : Typeside → List Entry → List (List (List ℕ))
entry_records T entries = map (entry_record T) entries

-- the first record of the file with the nulls and the entries: the mark of the format
abbrev pub mark : List (List ℕ)
mark = codes "format-2" ∷ codes "left" ∷ codes "right" ∷ []

module _ (i : InstanceData) where
  -- the first record of an entity's file, by the numbers of its attributes and keys
  abbrev pub header : List ℕ → List ℕ → List (List ℕ)
  header attributes keys = codes "id" ∷ names_of i.schema.attributes attributes ++ names_of i.schema.keys keys

  abbrev pub cell : ℕ → ℕ → List ℕ
  cell row a = cell_field i.schema.typeside (cell_at i.tables a row)

  -- a row by its number from 1
  abbrev pub reference : ℕ → ℕ → List ℕ
  reference row k = decimal (key_at i.tables k row + 1)

  -- the record of a row: its number from 1, its attributes, and the row to which each key leads
  abbrev pub row_record : List ℕ → List ℕ → ℕ → List (List ℕ)
  row_record attributes keys row = decimal (row + 1) ∷ map (cell row) attributes ++ map (reference row) keys

  -- the records of a file, by the numbers of its entity's attributes and keys
  abbrev pub records : ℕ → List ℕ → List ℕ → List (List (List ℕ))
  records entity attributes keys = header attributes keys ∷ map (row_record attributes keys) (below (count_of i.tables entity))

  abbrev pub entity_records : ℕ → List (List (List ℕ))
  entity_records entity = records entity (numbers_from entity i.schema.attributes) (numbers_from entity i.schema.keys)

  -- each null by its label, and then each entry
  abbrev pub algebra_records : List (List (List ℕ))
  algebra_records = mark ∷ null_records i.schema.typeside i.tables.algebra.nulls ++ entry_records i.schema.typeside i.tables.algebra.entries

-- a file of the folder with this name
abbrev pub file_name : List ℕ → List ℕ → List ℕ
file_name folder file = folder ++ codes "/" ++ file ++ codes ".csv"

-- the name and the text of an entity's file
abbrev pub entity_file : Name → InstanceData → ℕ → List ℕ × List ℕ
entity_file name i entity = (file_name name (name_or_empty (slice_get i.schema.entities entity)), file_text (entity_records i entity))

-- the files of an instance in the folder of its name: those of the entities in order, and that of the nulls and the entries
abbrev pub files_of : Name → InstanceData → List (List ℕ × List ℕ)
files_of name i =
    map (entity_file name i) (below (length i.schema.entities)) ++ (file_name name (codes "entries-2"), file_text (algebra_records i)) ∷ []

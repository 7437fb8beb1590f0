-- Transcripts of instances.
use Rattle.std.specs.Prelude.{ℕ, List, [], ◌++◌, ◌+◌, ◌≡◌, ◌<◌, true, Option, Some, None, map, length, slice_get, slice_index, codes}
use Rattle.std.specs.Prelude.{decimal}
use Rattle.std.specs.List.{flat_map, list_all}
use Rattle.cq_base.specs.declared.name.Name.{Name}
use Rattle.cq_theory.specs.declared.presentation.Sort.{Sort}
use Rattle.cq_theory.specs.declared.schema.Edge.{Edge}
use Rattle.cq_theory.specs.declared.term.EntTerm.{EntTerm}
use Rattle.cq_theory.specs.TypesideData.{TypesideData as Typeside}
use Rattle.cq_theory.specs.declared.value.Entry.{Entry}
use Rattle.cq_theory.specs.Tables.{count_of, key_at, cell_at}
use Rattle.cq_theory.specs.Canonical.{below}
use Rattle.cq_theory.specs.ValueText.{value_text, null_text, application_text, function_name, is_named}
use Rattle.cq_instance.specs.InstanceData.{InstanceData, name_at}
use Rattle.cq_text.specs.Grouped.{numbers_from}

abbrev pub name_or_empty : Option Name → Name
name_or_empty None = []
name_or_empty (Some name) = name

abbrev pub edge_name : Option Edge → Name
edge_name None = []
edge_name (Some edge) = edge.name

abbrev pub generator_name : Option (Name × Sort) → Name
generator_name None = []
generator_name (Some generator) = generator.0

-- the text and LF
abbrev pub line : List ℕ → List ℕ
line text = text ++ codes "\n"

-- a dot and the name of a key
abbrev pub step_text : List Edge → ℕ → List ℕ
step_text keys k = codes "." ++ edge_name (slice_get keys k)

-- the name of the generator, then a dot and the name of each key that is followed from it
abbrev pub name_text : List Edge → List (Name × Sort) → EntTerm → List ℕ
name_text keys generators t = generator_name (slice_get generators t.generator) ++ flat_map (step_text keys) t.path

-- a blank, the name of an attribute or a key, `=`, and what a row has there
abbrev pub field_text : Name → List ℕ → List ℕ
field_text name shown = codes " " ++ name ++ codes "=" ++ shown

-- a null, by its label, with the number of its type
abbrev pub null_line : Typeside → ℕ → ℕ → List ℕ
null_line T label type = line (null_text label ++ codes " " ++ name_or_empty (slice_get T.types type))

-- a function at its arguments, and the value that it has there
abbrev pub entry_line : Typeside → Entry → List ℕ
entry_line T entry =
    line (application_text (function_name (slice_get T.functions entry.function)) (map (value_text T) entry.args)
    ++ codes " = " ++ value_text T entry.value)

-- the functions and constants of the entry are the typeside's
pub record IsNamedEntry (T : Typeside) (entry : Entry) : Type 0 where
  pub function : entry.function < length T.functions
  pub args : list_all (is_named T) entry.args ≡ true
  pub value : is_named T entry.value ≡ true

-- a word, a blank and how many lines follow
abbrev pub heading : List ℕ → ℕ → List ℕ
heading word count = line (word ++ codes " " ++ decimal count)

module _ (i : InstanceData) where
  abbrev pub attribute_text : ℕ → ℕ → List ℕ
  attribute_text row a = field_text (edge_name (slice_get i.schema.attributes a)) (value_text i.schema.typeside (cell_at i.tables a row))

  -- a row is shown by its number from 1
  abbrev pub key_text : ℕ → ℕ → List ℕ
  key_text row k = field_text (edge_name (slice_get i.schema.keys k)) (decimal (key_at i.tables k row + 1))

  abbrev pub attribute_texts : ℕ → ℕ → List ℕ
  attribute_texts entity row = flat_map (attribute_text row) (numbers_from entity i.schema.attributes)

  abbrev pub key_texts : ℕ → ℕ → List ℕ
  key_texts entity row = flat_map (key_text row) (numbers_from entity i.schema.keys)

  -- the number of the row from 1, its name, its attributes and its keys
  abbrev pub row_line : ℕ → ℕ → List ℕ
  row_line entity row =
      line (decimal (row + 1) ++ codes " " ++ name_text i.schema.keys i.presentation.generators (name_at i.names entity row)
      ++ attribute_texts entity row ++ key_texts entity row)

  -- an entity with the count of its rows, and its rows
  abbrev pub entity_lines : ℕ → List ℕ
  entity_lines entity =
      heading (codes "entity " ++ name_or_empty (slice_get i.schema.entities entity)) (count_of i.tables entity)
      ++ flat_map (row_line entity) (below (count_of i.tables entity))

  abbrev pub null_lines : List ℕ
  null_lines =
      heading (codes "nulls") (length i.tables.algebra.nulls)
      ++ flat_map (λ label. null_line i.schema.typeside label (slice_index i.tables.algebra.nulls label))
      (below (length i.tables.algebra.nulls))

  abbrev pub entry_lines : List ℕ
  entry_lines =
      heading (codes "entries") (length i.tables.algebra.entries)
      ++ flat_map (entry_line i.schema.typeside) i.tables.algebra.entries

-- an instance under its name and that of its schema: each entity with its rows, the nulls, the entries and the end
abbrev pub transcript_of : Name → Name → InstanceData → List ℕ
transcript_of name schema i =
    line (codes "instance " ++ name ++ codes " : " ++ schema)
    ++ flat_map (entity_lines i) (below (length i.schema.entities))
    ++ null_lines i ++ entry_lines i ++ line (codes "end")

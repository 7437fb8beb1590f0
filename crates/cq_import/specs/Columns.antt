-- The columns of an entity's file.
use Rattle.std.specs.Prelude.{ℕ, List, [], ◌∷◌, ◌++◌, ◌≡◌, ◌<◌, map, length, codes, Option, Some, None, slice_get, slice_index_or}
use Rattle.std.specs.declared.alloc.Global.{Global}
use Rattle.std.specs.declared.vec.Vec.{Vec}
use Rattle.cq_base.specs.declared.name.Name.{Name}
use Rattle.cq_theory.specs.declared.schema.Edge.{Edge}
use Rattle.cq_theory.specs.SchemaData.{SchemaData as Schema}
use Rattle.cq_theory.specs.Canonical.{edges_from}
use Rattle.cq_import.specs.declared.columns.Column.{Column}
use Rattle.cq_import.specs.declared.columns.Column.TheVariants.{Attribute, Key}
use Rattle.cq_import.specs.Records.{Record}

abbrev pub attribute_of : ℕ × Edge → Column
attribute_of a = Attribute a.0 a.1.to

abbrev pub key_of : ℕ × Edge → Column
key_of k = Key k.0 k.1.to

abbrev pub attribute_columns : List Edge → ℕ → List Column
attribute_columns attributes entity = map attribute_of (edges_from entity attributes)

-- after the column of ids: the attributes and then the foreign keys of the entity, in the order of the schema
abbrev pub columns : Schema → ℕ → List Column
columns S entity = attribute_columns S.attributes entity ++ map key_of (edges_from entity S.keys)

abbrev pub edge_name : Option Edge → Name
edge_name None = []
edge_name (Some edge) = edge.name

abbrev pub column_name : Schema → Column → Name
column_name S (Attribute a type) = edge_name (slice_get S.attributes a)
column_name S (Key k target) = edge_name (slice_get S.keys k)

-- the first record of a file with these columns
abbrev pub header_with : Schema → List Column → Record
header_with S columns = codes "id" ∷ map (column_name S) columns

-- the first record of an entity's file
abbrev pub header : Schema → ℕ → Record
header S entity = header_with S (columns S entity)

-- one list for each of so many entities: some columns, and then one for each edge from it
pub record IsGrouped (before : ℕ → List Column) (f : ℕ × Edge → Column) (edges : List Edge) (count : ℕ) (lists : List (Vec Column Global))
    : Type 0 where
  pub size : length lists ≡ count
  pub group : (entity : ℕ) (d : Vec Column Global) → entity < count → (slice_index_or lists entity d).items ≡ before entity
      ++ map f (edges_from entity edges)

-- one list for each entity, with its columns
abbrev pub AreColumns : Schema → List (Vec Column Global) → Type 0
AreColumns S = IsGrouped (attribute_columns S.attributes) key_of S.keys (length S.entities)

-- Where nulls go: to the values of terms that mean them, which are found one after another.
use Rattle.std.specs.Prelude.{ℕ, Bool, true, false, List, [], ◌∷◌, Option, Some, None, ◌≡◌, ◌<◌, ◌+◌, length, slice_get, slice_index_or}
use Rattle.std.specs.Prelude.{is_none, option_and_then}
use Rattle.std.specs.List.{list_any}
use Rattle.cq_theory.specs.declared.constant.Con.TheVariants.{Named}
use Rattle.cq_base.specs.declared.name.Name.{Name}
use Rattle.cq_theory.specs.declared.presentation.Sort.{Sort}
use Rattle.cq_theory.specs.declared.schema.Edge.{Edge}
use Rattle.cq_theory.specs.declared.term.TypeTerm.{TypeTerm}
use Rattle.cq_theory.specs.declared.term.TypeTerm.TheVariants as term
use Rattle.cq_theory.specs.declared.value.Value.{Value}
use Rattle.cq_theory.specs.declared.value.Value.TheVariants.{Const, Null}
use Rattle.cq_theory.specs.declared.value.Entry.{Entry}
use Rattle.cq_theory.specs.Sorts.{type_of}
use Rattle.cq_theory.specs.Tables.{Assignment, Initial, count_of, cell_at, value_of}
use Rattle.cq_instance.specs.InstanceData.{InstanceData}
use Rattle.cq_instance.specs.Given.{HasLeastNames}
use Rattle.cq_transform.specs.Rows.{row_there, rows_there}

-- The values that have been found, each at the label of its null.
abbrev pub Found : Type 0
Found = List (Option Value)

abbrev pub value_at : Found → ℕ → Option Value
value_at found label = option_and_then (λ o. o) (slice_get found label)

abbrev pub value_or_first : Option Value → Value
value_or_first None = Const (Named 0)
value_or_first (Some v) = v

-- no value has been found for a null, or the value is none of a constant or a null
abbrev pub is_open : Found → Value → Bool
is_open found (Const c) = false
is_open found (Null label) = is_none (value_at found label)
is_open found _ = true

-- the image of a constant or a null
abbrev pub plain_image : Found → Value → Value
plain_image found (Const c) = Const c
plain_image found (Null label) = value_or_first (value_at found label)
plain_image found _ = Const (Named 0)

-- the null is that of this value, and no value has been found for it
abbrev pub IsOpenAt : Found → Value → ℕ → Type 0
IsOpenAt found v label = (v ≡ Null label) × (slice_get found label ≡ Some None)

-- if the value is a null, a value has been found for it
abbrev pub IsClosed : Found → Value → Type 0
IsClosed found v = (label : ℕ) → label < length found → v ≡ Null label → (w : Value) × (slice_get found label ≡ Some (Some w))

-- if values of a column are nulls, values have been found for them
abbrev pub AreClosed : Found → List Value → Type 0
AreClosed found column = (n : ℕ) (v : Value) → slice_get column n ≡ Some v → IsClosed found v

-- if values have been found for the arguments of an entry, then so for its value
abbrev pub IsEntryClosed : Found → Entry → Type 0
IsEntryClosed found entry = list_any (is_open found) entry.args ≡ false → IsClosed found entry.value

abbrev pub AreEntriesClosed : Found → List Entry → Type 0
AreEntriesClosed found entries = (n : ℕ) (entry : Entry) → slice_get entries n ≡ Some entry → IsEntryClosed found entry

-- what has been found stays
pub record Keeps (old new : Found) : Type 0 where
  pub count : length new ≡ length old
  pub kept : (label : ℕ) (v : Value) → slice_get old label ≡ Some (Some v) → slice_get new label ≡ Some (Some v)

-- how many values are still to be found
abbrev pub count_open : Found → ℕ
count_open [] = 0
count_open (None ∷ found) = count_open found + 1
count_open (Some v ∷ found) = count_open found

-- the instance is the initial model of its presentation, and its names are the least ones
abbrev pub IsInitial : InstanceData → Type 0
IsInitial i = Initial i.schema i.presentation i.tables i.assignment × HasLeastNames i

abbrev pub IsEntryOf : InstanceData → Entry → Type 0
IsEntryOf i entry = (n : ℕ) × (slice_get i.tables.algebra.entries n ≡ Some entry)

module _ (i j : InstanceData) (B : Assignment) where
  -- a term means the null in i, and the value in j, where a generator stands for what B says
  pub record IsSpelled (label : ℕ) (v : Value) : Type 0 where
    pub name : TypeTerm
    pub type : ℕ
    pub typed : type_of i.schema i.presentation.generators name ≡ Some type
    pub here : value_of i.tables i.assignment name ≡ Null label
    pub there : value_of j.tables B name ≡ v

  abbrev pub AreSpelled : Found → Type 0
  AreSpelled found = (label : ℕ) (v : Value) → slice_get found label ≡ Some (Some v) → IsSpelled label v

  -- there is a value for each null, and it is right
  pub record AreNulls (nulls : List Value) : Type 0 where
    pub count : length nulls ≡ length i.tables.algebra.nulls
    pub spelled : (label : ℕ) → label < length i.tables.algebra.nulls → IsSpelled label (slice_index_or nulls label (Const (Named 0)))

-- generator n is of this sort
abbrev pub IsGenerator : InstanceData → ℕ → Sort → Type 0
IsGenerator i n sort = (name : Name) × (slice_get i.presentation.generators n ≡ Some (name, sort))

-- the value is that for which a generator of a type stands
abbrev pub IsStandingOf : InstanceData → ℕ → Value → Type 0
IsStandingOf i n v =
    (type : ℕ) × (type_of i.schema i.presentation.generators (term.Gen n) ≡ Some type)
    × (v ≡ value_of i.tables i.assignment (term.Gen n))

module _ (i : InstanceData) (found : Found) where
  -- if generator n stands for a null, its value has been found
  abbrev pub IsGeneratorClosed : ℕ → Type 0
  IsGeneratorClosed n = IsClosed found (value_of i.tables i.assignment (term.Gen n))

  -- so where it is of a type
  abbrev pub IsPlainClosed : ℕ → Type 0
  IsPlainClosed n = (type : ℕ) → type_of i.schema i.presentation.generators (term.Gen n) ≡ Some type → IsGeneratorClosed n

  abbrev pub AreGeneratorsClosed : ℕ → Type 0
  AreGeneratorsClosed count = (n : ℕ) → n < count → IsPlainClosed n

  -- the values of the nulls in the cells of an attribute have been found
  abbrev pub IsAttributeClosed : ℕ → Type 0
  IsAttributeClosed a = (edge : Edge) → slice_get i.schema.attributes a ≡ Some edge
      → (row : ℕ) → row < count_of i.tables edge.from → IsClosed found (cell_at i.tables a row)

  abbrev pub AreAttributesClosed : ℕ → Type 0
  AreAttributesClosed count = (a : ℕ) → a < count → IsAttributeClosed a

module _ (i j : InstanceData) (B : Assignment) (a : ℕ) where
  -- the value is that of an attribute at a row of i, which goes to this row of j
  pub record IsCellOf (row image : ℕ) (v : Value) : Type 0 where
    pub edge : Edge
    pub attribute : slice_get i.schema.attributes a ≡ Some edge
    pub within : row < count_of i.tables edge.from
    pub cell : v ≡ cell_at i.tables a row
    pub goes : image ≡ row_there i j B edge.from row

  -- the values are those of an attribute at the rows of i, which go to these rows of j
  pub record IsColumnOf (images : List ℕ) (column : List Value) : Type 0 where
    pub edge : Edge
    pub attribute : slice_get i.schema.attributes a ≡ Some edge
    pub count : length column ≡ count_of i.tables edge.from
    pub column_is : column ≡ slice_index_or i.tables.sheet.cells a []
    pub go : images ≡ rows_there i j B edge.from

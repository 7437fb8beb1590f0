-- The lines of a literal by the numbers of rows, attributes and keys.
use Rattle.std.specs.Prelude.{ℕ, List, ◌++◌, ◌+◌, ◌≡◌, ◌<◌, Option, Some, None, IfSome, map, take, sum, length, slice_get, slice_index}
use Rattle.std.specs.Prelude.{codes}
use Rattle.cq_theory.specs.declared.presentation.Sort.TheVariants.{Entity}
use Rattle.cq_theory.specs.declared.schema.Edge.{Edge}
use Rattle.cq_theory.specs.SchemaData.{SchemaData as Schema}
use Rattle.cq_theory.specs.TypesideData.{TypesideData as Typeside}
use Rattle.cq_theory.specs.declared.value.Value.{Value}
use Rattle.cq_theory.specs.declared.value.Value.TheOpen.{Value-F, Const, Null, Fun}
use Rattle.cq_theory.specs.declared.value.Value.TheFolds.{fold-Value}
use Rattle.cq_theory.specs.declared.value.Entry.{Entry}
use Rattle.cq_theory.specs.Tables.{Tables, count_of, key_at, cell_at}
use Rattle.cq_theory.specs.ValueText.{quoted, function_name, application_text}
use Rattle.cq_theory.specs.Canonical.{below, row_generator, null_generator}
use Rattle.cq_instance.specs.InstanceData.{InstanceData}
use Rattle.cq_text.specs.Transcript.{edge_name, line, name_or_empty}
use Rattle.cq_text.specs.Literal.{applied_text, content_of, equals_line, generator_line, generator_text}
use Rattle.cq_text.specs.Grouped.{IsGrouped}
use Rattle.cq_text.specs.declared.plan.Plan.{Plan}

-- a value, in which nulls stand as their generators; that of the first null has this number
module _ (T : Typeside) (first : ℕ) where
  abbrev pub spelled_step : Value-F (List ℕ) → List ℕ
  spelled_step (Const c) = quoted (content_of T c)
  spelled_step (Null n) = generator_text (first + n)
  spelled_step (Fun f texts) = application_text (function_name (slice_get T.functions f)) texts

  abbrev pub spelled : Value → List ℕ
  spelled = fold-Value (List ℕ) spelled_step

  abbrev pub entry_equation_line : Entry → List ℕ
  entry_equation_line entry =
      equals_line (application_text (function_name (slice_get T.functions entry.function)) (map spelled entry.args)) (spelled entry.value)

-- the generator with this number, of a type
abbrev pub plain_line : Typeside → ℕ → ℕ → List ℕ
plain_line T number type = line (generator_text number ++ codes " : " ++ name_or_empty (slice_get T.types type))

abbrev pub target_of : Option Edge → ℕ
target_of None = 0
target_of (Some edge) = edge.to

-- an edge with this number, and the row is one of its source
abbrev pub LeavesRow : Tables → List Edge → ℕ → ℕ → Type 0
LeavesRow M edges row n = (n < length edges) × IfSome (slice_get edges n) (λ edge. row < count_of M edge.from)

module _ (S : Schema) (M : Tables) where
  -- the generator of a row, and its entity
  abbrev pub row_generator_line : ℕ → ℕ → List ℕ
  row_generator_line entity row = generator_line S (generator_text (row_generator S M entity row), Entity entity)

  -- the generator of a null, and its type
  abbrev pub null_generator_line : ℕ → List ℕ
  null_generator_line label = plain_line S.typeside (null_generator S M label) (slice_index M.algebra.nulls label)

  -- an attribute at a row with this generator
  abbrev pub cell_equation_line : ℕ → ℕ → ℕ → List ℕ
  cell_equation_line generator row a =
      equals_line (applied_text (edge_name (slice_get S.attributes a)) (generator_text generator))
      (spelled S.typeside (sum M.sheet.counts) (cell_at M a row))

  -- a foreign key at a row with this generator
  abbrev pub key_equation_line : ℕ → ℕ → ℕ → List ℕ
  key_equation_line generator row k =
      equals_line (applied_text (edge_name (slice_get S.keys k)) (generator_text generator))
      (generator_text (row_generator S M (target_of (slice_get S.keys k)) (key_at M k row)))

-- the generator of each entity's first row
abbrev pub starts_of : List ℕ → List ℕ
starts_of counts = map (λ entity. sum (take entity counts)) (below (length counts))

-- the plan has the generators of each entity's first row and of the first null, and the edges of each entity
pub record IsPlan (i : InstanceData) (plan : Plan) : Type 0 where
  pub starts : plan.starts.items ≡ starts_of i.tables.sheet.counts
  pub entities : length plan.starts.items ≡ length i.schema.entities
  pub null : plan.first_null ≡ sum i.tables.sheet.counts
  pub attributes : IsGrouped i.schema.attributes (length i.schema.entities) plan.attributes.items
  pub keys : IsGrouped i.schema.keys (length i.schema.entities) plan.keys.items

-- What the generators and the equations of the canonical presentation are made of: the numbers of generators, and the edges of each entity
-- by their numbers.
use Rattle.std.specs.Prelude.{ℕ, List, [], ◌∷◌, ◌++◌, ◌+◌, ◌<◌, ◌^◌, All, map, length, sum, take, replicate, slice_index, slice_index_or}
use Rattle.std.specs.List.{flat_map}
use Rattle.cq_theory.specs.declared.constant.Con.TheVariants.{Named}
use Rattle.cq_theory.specs.declared.presentation.Equation.{Equation}
use Rattle.cq_theory.specs.declared.presentation.Equation.TheVariants.{Ent, Typ}
use Rattle.cq_theory.specs.declared.presentation.Sort.{Sort}
use Rattle.cq_theory.specs.declared.presentation.Sort.TheVariants.{Plain, Entity}
use Rattle.cq_theory.specs.declared.schema.Edge.{Edge}
use Rattle.cq_theory.specs.declared.term.EntTerm.{EntTerm}
use Rattle.cq_theory.specs.declared.term.TypeTerm.TheVariants as term
use Rattle.cq_theory.specs.declared.value.Value.TheVariants as value
use Rattle.cq_theory.specs.declared.value.Entry.{Entry}
use Rattle.cq_theory.specs.declared.value.Sheet.{Sheet}
use Rattle.cq_theory.specs.Tables.{Meaning, AtRow, AtValue}
use Rattle.cq_theory.specs.Canonical.{below}
use Rattle.cq_theory.specs.Groups.{positions}
use Rattle.cq_terms.specs.ValueTerms.{value_term, entry_equation}
use Rattle.cq_instance.specs.declared.canonical.Numbers.{Numbers}

module _ (counts : List ℕ) where
  -- the first generator of an entity's rows
  abbrev pub start_of : ℕ → ℕ
  start_of entity = sum (take entity counts)

  abbrev pub starts : List ℕ
  starts = map start_of (below (length counts))

  abbrev pub row_sorts : ℕ → List Sort
  row_sorts entity = replicate (slice_index counts entity) (Entity entity)

  abbrev pub sorts : List ℕ → List Sort
  sorts nulls = flat_map row_sorts (below (length counts)) ++ map Plain nulls

  -- the generators of an entity's rows as terms
  abbrev pub names : ℕ → List EntTerm
  names entity = map (λ row. record { generator = start_of entity + row; path = [] }) (below (slice_index counts entity))

  -- what the generators stand for
  abbrev pub meanings : ℕ → List Meaning
  meanings nulls = flat_map (λ entity. map AtRow (below (slice_index counts entity))) (below (length counts))
      ++ map (λ n. AtValue (value.Null n)) (below nulls)

module _ (sheet : Sheet) (numbers : Numbers) where
  -- the row in a key's column, and the value in an attribute's
  abbrev pub key_row : ℕ → ℕ → ℕ
  key_row k row = slice_index (slice_index_or sheet.keys k []) row

  abbrev pub target_generator : ℕ → ℕ → ℕ
  target_generator k row = slice_index numbers.starts (slice_index numbers.targets k) + key_row k row

  abbrev pub cell_made : ℕ → ℕ → ℕ → Equation
  cell_made generator row a =
      Typ (term.Att a (record { generator = generator; path = [] }))
      (value_term numbers.first_null numbers.nulls (slice_index_or (slice_index_or sheet.cells a []) row (value.Const (Named 0))))

  abbrev pub key_made : ℕ → ℕ → ℕ → Equation
  key_made generator row k = Ent (record { generator = generator; path = k ∷ [] })
      (record { generator = target_generator k row; path = [] })

  abbrev pub cells_made : ℕ → ℕ → List Equation
  cells_made entity row = map (cell_made (slice_index numbers.starts entity + row) row) (slice_index_or numbers.attributes entity [])

  abbrev pub keys_made : ℕ → ℕ → List Equation
  keys_made entity row = map (key_made (slice_index numbers.starts entity + row) row) (slice_index_or numbers.keys entity [])

  abbrev pub row_made : ℕ → ℕ → List Equation
  row_made entity row = cells_made entity row ++ keys_made entity row

  abbrev pub entity_made : ℕ → List Equation
  entity_made entity = flat_map (row_made entity) (below (slice_index sheet.counts entity))

  abbrev pub rows_made : List Equation
  rows_made = flat_map entity_made (below (length sheet.counts))

  abbrev pub equations : List Entry → List Equation
  equations entries = rows_made ++ map (entry_equation numbers.first_null numbers.nulls) entries

  -- each number of a generator has 32 bits
  pub record HaveRoom : Type 0 where
    pub rows : (entity row : ℕ) → row < slice_index sheet.counts entity → slice_index numbers.starts entity + row < 2 ^ 32
    pub keys : (entity row : ℕ) → row < slice_index sheet.counts entity
        → All (λ k. target_generator k row < 2 ^ 32) (slice_index_or numbers.keys entity [])
    pub null_room : numbers.first_null + numbers.nulls < 2 ^ 32

-- the numbers for tables with these rows and that many nulls, over that many entities, and these foreign keys and attributes
abbrev pub numbers_of : ℕ → List Edge → List Edge → List ℕ → ℕ → Numbers
numbers_of entities keys attributes counts nulls = record {
  starts = starts counts;
  targets = map (λ edge. edge.to) keys;
  attributes = map (positions (map (λ edge. edge.from) attributes)) (below entities);
  keys = map (positions (map (λ edge. edge.from) keys)) (below entities);
  first_null = sum counts;
  nulls = nulls;
}

-- The numbering of cells: by entity, then by row, then by attribute.
-- Everything here is of plain numbers: `owners` has the entity of each generator, `sources` that of each attribute.
use Rattle.std.specs.Prelude.{ℕ, List, [], ◌+◌, ◌*◌, map, length, slice_index, slice_index_or}
use Rattle.std.specs.List.{flat_map}
use Rattle.cq_theory.specs.Canonical.{below}
use Rattle.cq_theory.specs.Groups.{positions}
use Rattle.cq_names.specs.Ranks.{rank, members}

-- a cell: a generator of an entity, and an attribute from it
pub record Cell : Type 0 where
  pub entity : ℕ
  pub generator : ℕ
  pub attribute : ℕ

module _ (owners sources : List ℕ) where
  abbrev pub row_cells : ℕ → ℕ → List Cell
  row_cells e n = map (λ a. record { entity = e; generator = n; attribute = a }) (positions sources e)

  abbrev pub entity_cells : ℕ → List Cell
  entity_cells e = flat_map (row_cells e) (positions owners e)

  -- the cells of the first entities, in order
  abbrev pub cells : ℕ → List Cell
  cells entities = flat_map entity_cells (below entities)

  -- the number of an attribute's cell at a row of an entity
  abbrev pub label : ℕ → ℕ → ℕ → ℕ
  label e row a = length (cells e) + row * members sources e + rank sources e a

-- What is counted out from the rows and the attributes of each entity, given as lists by entity.
module _ (rows attributes : List (List ℕ)) where
  -- the types of the nulls of an entity's cells, where `targets` has the type of each attribute
  abbrev pub entity_types : List ℕ → ℕ → List ℕ
  entity_types targets e = flat_map (λ row. map (slice_index targets) (slice_index_or attributes e [])) (slice_index_or rows e [])

  abbrev pub types : List ℕ → ℕ → List ℕ
  types targets entities = flat_map (entity_types targets) (below entities)

  -- how many cells the first entities have, for each number of them
  abbrev pub starts : List ℕ → ℕ → List ℕ
  starts targets entities = map (λ e. length (types targets e)) (below entities)

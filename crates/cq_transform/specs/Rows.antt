-- Where rows go: each where its name leads, whose generator stands for what its image means.
use Rattle.std.specs.Prelude.{ℕ, List, map, length}
use Rattle.cq_theory.specs.Canonical.{below}
use Rattle.cq_theory.specs.Tables.{Assignment, count_of, row_of}
use Rattle.cq_instance.specs.InstanceData.{InstanceData, name_at}

module _ (i j : InstanceData) (B : Assignment) where
  -- the row to which the name of a row of i leads in j, where a generator stands for what B says
  abbrev pub row_there : ℕ → ℕ → ℕ
  row_there entity row = row_of j.tables B (name_at i.names entity row)

  abbrev pub rows_there : ℕ → List ℕ
  rows_there entity = map (row_there entity) (below (count_of i.tables entity))

  abbrev pub rows_made : List (List ℕ)
  rows_made = map rows_there (below (length i.schema.entities))

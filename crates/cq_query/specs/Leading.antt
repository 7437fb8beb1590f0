-- Where the foreign keys of a query lead from an answer.
use Rattle.std.specs.Prelude.{ℕ, List, map}
use Rattle.cq_theory.specs.Tables.{Tables, row_of}
use Rattle.cq_query.specs.QueryData.{QueryData as Query}
use Rattle.cq_query.specs.Translation.{assigned}
use Rattle.cq_query.specs.Answers.{IsTuple, variable_counts, stands, MeetsTests}

module _ (Q : Query) (M : Tables) where
  -- a row of its entity for each variable of an entity's block, at which each where equation of the block holds
  abbrev pub IsAnswer : ℕ → List ℕ → Type 0
  IsAnswer entity rows = IsTuple rows (variable_counts Q M entity) × MeetsTests Q M entity rows

  -- the rows that the terms of a foreign key name at these rows, one for each variable of the block to which the key leads
  abbrev pub led : ℕ → List ℕ → List ℕ
  led k rows = map (row_of M (stands Q M rows)) (assigned Q k)

-- The unit and the counit of coeval and eval, as images.
use Rattle.std.specs.Prelude.{ℕ, List, [], ◌++◌, map, length, slice_index, slice_index_or}
use Rattle.std.specs.List.{enumerate_from, flat_map}
use Rattle.cq_base.specs.declared.name.Name.{Name}
use Rattle.cq_theory.specs.declared.presentation.Sort.{Sort}
use Rattle.cq_theory.specs.declared.presentation.Sort.TheVariants.{Plain, Entity}
use Rattle.cq_theory.specs.declared.term.TypeTerm.{TypeTerm}
use Rattle.cq_theory.specs.declared.value.Value.{Value}
use Rattle.cq_theory.specs.Canonical.{below, row_term, value_term}
use Rattle.cq_theory.specs.Tables.{AtRow, count_of, row_in, value_in, row_of, value_of}
use Rattle.cq_instance.specs.InstanceData.{InstanceData, name_at}
use Rattle.cq_instance.specs.declared.transform.Image.{Image}
use Rattle.cq_instance.specs.declared.transform.Image.TheVariants.{Row, Value as ValueImage}
use Rattle.cq_query.specs.QueryData.{QueryData as Query}
use Rattle.cq_query.specs.Translation.{variables_at}
use Rattle.cq_adjoint.specs.Copies.{copy_of, copied_value, answers_at, place_of}

-- x is coeval of i, and b is eval of x with these answers
module _ (Q : Query) (i x b : InstanceData) (answers : List (List (List ℕ))) where
  -- the rows of x that the copies of a row of i name
  abbrev pub copies_named : ℕ → ℕ → List ℕ
  copies_named entity row =
      map (λ v. row_of x.tables x.assignment (copy_of Q i.tables entity row v.0))
      (enumerate_from 0 (variables_at Q entity))

  -- a row goes to the generator of the answer that its copies name, and a value to the spelling of its copy's value
  abbrev pub unit_row : ℕ → ℕ → Image
  unit_row entity row =
      Row (row_term b.schema b.tables entity (place_of (answers_at answers entity) (copies_named entity row)))

  abbrev pub unit_value : Value → Image
  unit_value v = ValueImage (value_term b.schema b.tables (value_of x.tables x.assignment (copied_value Q i.tables v)))

  abbrev pub unit_image : ℕ × (Name × Sort) → Image
  unit_image g = elim g.1.1 [
    | Plain type ↦ unit_value (value_in (slice_index_or i.assignment g.0 (AtRow 0)))
    | Entity entity ↦ unit_row entity (row_in (slice_index_or i.assignment g.0 (AtRow 0)))
  ]

  abbrev pub unit_query_images : List Image
  unit_query_images = map unit_image (enumerate_from 0 i.presentation.generators)

-- x is eval of i with these answers, whose nulls are those of i
module _ (Q : Query) (i x : InstanceData) (answers : List (List (List ℕ))) (null_term : ℕ → TypeTerm) where
  -- the copy of an answer for a variable goes to the name of the variable's row in the answer
  abbrev pub answer_named : ℕ → ℕ → List Image
  answer_named entity row =
      map (λ v. Row (name_at i.names v.1.1 (slice_index (slice_index_or (answers_at answers entity) row []) v.0)))
      (enumerate_from 0 (variables_at Q entity))

  -- and a null's generator to the null's term
  abbrev pub counit_query_images : List Image
  counit_query_images =
      flat_map (λ entity. flat_map (answer_named entity) (below (count_of x.tables entity)))
      (below (length Q.target.entities))
      ++ map (λ label. ValueImage (null_term label)) (below (length x.tables.algebra.nulls))

-- Where a transform out of coeval sends generators, made of one into eval.
use Rattle.std.specs.Prelude.{ℕ, List, [], ◌≡◌, ◌++◌, map, length, slice_index, slice_index_or}
use Rattle.std.specs.List.{enumerate_from, flat_map}
use Rattle.cq_base.specs.declared.name.Name.{Name}
use Rattle.cq_theory.specs.declared.term.TypeTerm.{TypeTerm}
use Rattle.cq_theory.specs.declared.value.Value.TheVariants.{Null}
use Rattle.cq_theory.specs.Canonical.{below}
use Rattle.cq_theory.specs.Homomorphism.{row_image, value_image}
use Rattle.cq_theory.specs.Tables.{count_of}
use Rattle.cq_instance.specs.InstanceData.{InstanceData, name_at}
use Rattle.cq_instance.specs.declared.transform.Image.{Image}
use Rattle.cq_instance.specs.declared.transform.Image.TheVariants.{Row, Value as ValueImage}
use Rattle.cq_instance.specs.declared.transform.Transform.{Transform}
use Rattle.cq_query.specs.QueryData.{QueryData as Query}
use Rattle.cq_query.specs.Translation.{variables_at}
use Rattle.cq_adjoint.specs.Copies.{answers_at}
use Rattle.cq_adjoint.specs.Moves.{spelled_value}

-- h goes from i to d, which is eval of j with these answers
module _ (Q : Query) (h : Transform) (i j d : InstanceData) (answers : List (List (List ℕ))) where
  -- the answer to which h sends a row of i
  abbrev pub answer_of : ℕ → ℕ → List ℕ
  answer_of entity row = slice_index_or (answers_at answers entity)
      (row_image i.schema i.tables d.tables h.rows h.nulls entity row) []

  -- the copy of a row for a variable goes to the name of the variable's row in the answer
  abbrev pub row_named : ℕ → ℕ → ℕ × (Name × ℕ) → Image
  row_named entity row v = Row (name_at j.names v.1.1 (slice_index (answer_of entity row) v.0))

  abbrev pub rows_named : ℕ → ℕ → List Image
  rows_named entity row = map (row_named entity row) (enumerate_from 0 (variables_at Q entity))

  -- and a null's generator to the value to which h sends the null, spelled with these terms for the nulls of j
  module _ (null_term : ℕ → TypeTerm) where
    abbrev pub null_named : ℕ → Image
    null_named label = ValueImage (spelled_value null_term
        (value_image i.schema i.tables d.tables h.rows h.nulls (Null label)))

    abbrev pub from_eval_images : List Image
    from_eval_images =
        flat_map (λ entity. flat_map (rows_named entity) (below (count_of i.tables entity)))
        (below (length Q.target.entities))
        ++ map null_named (below (length i.tables.algebra.nulls))

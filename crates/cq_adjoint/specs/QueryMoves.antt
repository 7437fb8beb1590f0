-- Where a transform along a query sends generators.
use Rattle.std.specs.Prelude.{ℕ, List, [], ◌≡◌, ◌++◌, map, length, slice_index, slice_index_or}
use Rattle.std.specs.List.{enumerate_from, flat_map}
use Rattle.cq_base.specs.declared.name.Name.{Name}
use Rattle.cq_theory.specs.declared.presentation.Sort.{Sort}
use Rattle.cq_theory.specs.declared.presentation.Sort.TheVariants.{Plain, Entity}
use Rattle.cq_theory.specs.declared.term.EntTerm.{EntTerm}
use Rattle.cq_theory.specs.declared.term.TypeTerm.{TypeTerm}
use Rattle.cq_theory.specs.declared.value.Value.{Value}
use Rattle.cq_theory.specs.declared.value.Value.TheVariants.{Null}
use Rattle.cq_theory.specs.Canonical.{below, row_term, value_term}
use Rattle.cq_theory.specs.Homomorphism.{row_image, value_image}
use Rattle.cq_theory.specs.Tables.{Tables, AtRow, count_of, row_in, value_in, row_of, value_of}
use Rattle.cq_instance.specs.InstanceData.{InstanceData}
use Rattle.cq_instance.specs.Given.{given}
use Rattle.cq_instance.specs.declared.transform.Image.{Image}
use Rattle.cq_instance.specs.declared.transform.Image.TheVariants.{Row, Value as ValueImage}
use Rattle.cq_instance.specs.declared.transform.Transform.{Transform}
use Rattle.cq_transform.specs.Nulls.{IsInitial}
use Rattle.cq_transform.specs.Transforms.{GoesFrom}
use Rattle.cq_query.specs.QueryData.{QueryData as Query}
use Rattle.cq_query.specs.Translation.{variables_at}
use Rattle.cq_query.specs.Answers.{IsEval}
use Rattle.cq_query.specs.Coeval.{coeval_of}
use Rattle.cq_adjoint.specs.Copies.{copy_of, copied_value, answers_at, place_of, AreAllAnswers}

-- a is coeval of i: over the query's source, the initial model of the presentation that the query makes of i's tables
pub record IsCoeval (Q : Query) (i a : InstanceData) : Type 0 where
  pub over : i.schema ≡ Q.target
  pub schema : a.schema ≡ Q.source
  pub presentation : a.presentation ≡ coeval_of Q i.tables
  pub initial : IsInitial a

-- d is eval of j: the tables of all answers with their canonical presentation
pub record IsEvaluated (Q : Query) (j d : InstanceData) : Type 0 where
  pub over : j.schema ≡ Q.source
  pub tables : IsEval Q j.tables d.tables
  pub given : d ≡ given Q.target d.tables

-- h goes from a to j: where it sends the row and the value that terms over a mean
module _ (h : Transform) (a j : InstanceData) where
  abbrev pub row_sent : ℕ → EntTerm → ℕ
  row_sent entity t = row_image a.schema a.tables j.tables h.rows h.nulls entity (row_of a.tables a.assignment t)

  abbrev pub value_sent : TypeTerm → Value
  value_sent t = value_image a.schema a.tables j.tables h.rows h.nulls (value_of a.tables a.assignment t)

-- h goes from a, which is coeval of i, to j; the answer in j for a row of i has for each variable the row to which h
-- sends the copy
module _ (Q : Query) (h : Transform) (i a j : InstanceData) where
  abbrev pub copies_sent : ℕ → ℕ → List ℕ
  copies_sent entity row = map (λ v. row_sent h a j v.1.1 (copy_of Q i.tables entity row v.0))
      (enumerate_from 0 (variables_at Q entity))

  -- d is eval of j, and these are the answers in j; a generator of a row goes to that of the row's answer, and one of a
  -- value to the spelling of the value to which h sends the copied value
  module _ (d : InstanceData) (answers : List (List (List ℕ))) where
    abbrev pub to_eval_row : ℕ → ℕ → Image
    to_eval_row entity row = Row (row_term d.schema d.tables entity
        (place_of (answers_at answers entity) (copies_sent entity row)))

    abbrev pub to_eval_value : Value → Image
    to_eval_value v = ValueImage (value_term d.schema d.tables (value_sent h a j (copied_value Q i.tables v)))

    abbrev pub to_eval_image : ℕ × (Name × Sort) → Image
    to_eval_image g = elim g.1.1 [
      | Plain type ↦ to_eval_value (value_in (slice_index_or i.assignment g.0 (AtRow 0)))
      | Entity entity ↦ to_eval_row entity (row_in (slice_index_or i.assignment g.0 (AtRow 0)))
    ]

    abbrev pub to_eval_images : List Image
    to_eval_images = map to_eval_image (enumerate_from 0 i.presentation.generators)

-- i is initial, a is coeval of i, d is eval of j with these answers
pub record AreAcross (Q : Query) (i a j d : InstanceData) (answers : List (List (List ℕ))) : Type 0 where
  pub initial : IsInitial i
  pub coeval : IsCoeval Q i a
  pub evaluated : IsEvaluated Q j d
  pub answered : AreAllAnswers Q j.tables answers

-- h goes from i to j: the answer in j for an answer in i, with h applied to each row
module _ (Q : Query) (h : Transform) (i j : InstanceData) where
  abbrev pub answer_sent : ℕ → List ℕ → List ℕ
  answer_sent entity rows =
      map (λ v. row_image i.schema i.tables j.tables h.rows h.nulls v.1.1 (slice_index rows v.0))
      (enumerate_from 0 (variables_at Q entity))

-- h goes from i to j, a is eval of i with the answers `from`, and b is eval of j with the answers `to`
module _ (Q : Query) (h : Transform) (i j a b : InstanceData) (from to : List (List (List ℕ))) where
  -- a generator of an answer goes to that of the answer with h applied to each row, and one of a null to the spelling
  -- of where h sends the null
  abbrev pub eval_row : ℕ → ℕ → Image
  eval_row entity row = Row (row_term b.schema b.tables entity
      (place_of (answers_at to entity) (answer_sent Q h i j entity (slice_index_or (answers_at from entity) row []))))

  abbrev pub eval_value : Value → Image
  eval_value v = ValueImage (value_term b.schema b.tables (value_image i.schema i.tables j.tables h.rows h.nulls v))

  abbrev pub eval_image : ℕ × (Name × Sort) → Image
  eval_image g = elim g.1.1 [
    | Plain type ↦ eval_value (value_in (slice_index_or a.assignment g.0 (AtRow 0)))
    | Entity entity ↦ eval_row entity (row_in (slice_index_or a.assignment g.0 (AtRow 0)))
  ]

  abbrev pub eval_images : List Image
  eval_images = map eval_image (enumerate_from 0 a.presentation.generators)

-- a is eval of i with the answers `from`, and b is eval of j with the answers `to`
pub record AreEvaluated (Q : Query) (i j a b : InstanceData) (from to : List (List (List ℕ))) : Type 0 where
  pub source : IsEvaluated Q i a
  pub target : IsEvaluated Q j b
  pub answered : AreAllAnswers Q i.tables from
  pub answered_there : AreAllAnswers Q j.tables to

-- h goes from i to j; a and b are coeval of i and of j. The copy of a row goes to the copy, for the same variable, of
-- the row to which h sends the row, and a null's generator to the spelling of the value to which h sends the null.
module _ (Q : Query) (h : Transform) (i j : InstanceData) where
  abbrev pub copy_sent : ℕ → ℕ → ℕ → Image
  copy_sent entity row variable = Row
      (copy_of Q j.tables entity (row_image i.schema i.tables j.tables h.rows h.nulls entity row) variable)

  abbrev pub copies_of_row : ℕ → ℕ → List Image
  copies_of_row entity row = map (copy_sent entity row) (below (length (variables_at Q entity)))

  abbrev pub null_sent : ℕ → Image
  null_sent label = ValueImage (copied_value Q j.tables
      (value_image i.schema i.tables j.tables h.rows h.nulls (Null label)))

  abbrev pub coeval_images : List Image
  coeval_images =
      flat_map (λ entity. flat_map (copies_of_row entity) (below (count_of i.tables entity)))
      (below (length Q.target.entities))
      ++ map null_sent (below (length i.tables.algebra.nulls))

-- What is made of the names of answers is transposed to what arrives at eval, and nothing else is.
use Rattle.std.proofs.Common.{ℕ, List, Some, Result, Ok, Err, IfOk, ◌≡◌, ◌<◌, map, length, sym, ap, ◌∙◌}
use Rattle.std.specs.Prelude.{slice_get}
use Rattle.cq_theory.specs.declared.refusal.SizeRefusal.{SizeRefusal}
use Rattle.cq_theory.specs.declared.term.TypeTerm.{TypeTerm}
use Rattle.cq_theory.specs.declared.value.Value.{Value}
use Rattle.cq_theory.specs.declared.value.Value.TheVariants.{Null}
use Rattle.cq_theory.specs.Homomorphism.{value_image, IsHomomorphism}
use Rattle.cq_theory.specs.Tables.{count_of, row_of, value_of}
use Rattle.cq_instance.specs.InstanceData.{InstanceData, IsInstance}
use Rattle.cq_instance.specs.declared.transform.Image.{Image}
use Rattle.cq_instance.specs.declared.transform.Transform.{Transform}
use Rattle.cq_instance.specs.Given.{HasLeastNames}
use Rattle.cq_transform.specs.Transforms.{meanings_in, GoesFrom}
use Rattle.cq_query.specs.QueryData.{QueryData as Query}
use Rattle.cq_query.specs.IsQuery.{IsQuery}
use Rattle.cq_query.specs.Coeval.{row_terms}
use Rattle.cq_adjoint.specs.AnswerNames.{answer_of, from_eval_images}
use Rattle.cq_adjoint.specs.Copies.{copied_value, answers_at}
use Rattle.cq_adjoint.specs.QueryMoves.{AreAcross, value_sent, copies_sent}
use Rattle.cq_instance.specs.Spelling.{AreNullsSpelled}
use Rattle.cq_adjoint.specs.TransposedQueries.{AreTransposed, IsOnlyOutOfCoeval}
use Rattle.cq_adjoint.proofs.FromEval as from
use Rattle.cq_adjoint.proofs.OneOutOfCoeval.{one_out}
use Rattle.cq_adjoint.proofs.ToEval as to

module _ (Q : Query) (query : IsQuery Q) (h : Transform) (i a j d : InstanceData) (answers : List (List (List ℕ))) (across : AreAcross Q i a j d answers) (goes : GoesFrom h i d)
    (source : IsInstance i) (middle : IsInstance j) (least : HasLeastNames j) (null_term : ℕ → TypeTerm) (spell : AreNullsSpelled j null_term) (first : IsInstance a) where
  abbrev images : List Image
  images = from_eval_images Q h i j d answers null_term

  module _ (made : Transform) (same : made.images ≡ images) (there : GoesFrom made a j) where
    -- the copies of a row go to the rows of its answer, and a null's generator to the null's value
    copies_made : (e row : ℕ) → row < count_of i.tables e → copies_sent Q made i a j e row ≡ answer_of Q h i j d answers e row
    copies_made e row inside =
        to.copies_are Q query made i a j d answers across there source middle e row inside
        ∙ ap (λ (l : List Image). map (row_of j.tables (meanings_in j l)) (row_terms Q i.tables.sheet.counts e row)) same
        ∙ from.rows_same Q query h i a j d answers across goes source middle least null_term spell e row inside

    null_made : (label : ℕ) → label < length i.tables.algebra.nulls → value_sent made a j (copied_value Q i.tables (Null label)) ≡ value_image i.schema i.tables d.tables h.rows h.nulls (Null label)
    null_made label within =
        let typed = to.null_type_at Q query made i a j d answers across there source middle label within in
        to.null_meant Q query made i a j d answers across there source middle label within
        ∙ ap (λ (l : List Image). value_of j.tables (meanings_in j l) (copied_value Q i.tables (Null label))) same
        ∙ from.value_same Q query h i a j d answers across goes source middle least null_term spell (Null label) typed.0 typed.1

    pub transposed : AreTransposed Q made i a j d answers h.rows h.nulls
    transposed = record {
      each_row = λ e row inside. from.answered Q query h i a j d answers across goes source middle least null_term spell e row inside ∙ ap (λ (l : List ℕ). Some l) (sym (copies_made e row inside));
      each_null = λ label within. sym (null_made label within);
    }

    pub one : IsOnlyOutOfCoeval Q made i a j d answers h.rows h.nulls
    one other is says = one_out Q i a j across.coeval first query.source made there other is
        (λ e row inside.
        let both : Some (copies_sent Q other i a j e row) ≡ Some (answer_of Q h i j d answers e row) =
        sym (says.each_row e row inside) ∙ from.answered Q query h i a j d answers across goes source middle least null_term spell e row inside in
        let same_answer : copies_sent Q other i a j e row ≡ answer_of Q h i j d answers e row = cc in
        same_answer ∙ sym (copies_made e row inside))
        (λ label within. sym (says.each_null label within) ∙ sym (null_made label within))

  -- so for what a call answers
  pub all_transposed : (result : Result Transform SizeRefusal) → IfOk result (λ made. made.images ≡ images) → IfOk result (λ made. GoesFrom made a j)
      → IfOk result (λ made. AreTransposed Q made i a j d answers h.rows h.nulls)
  all_transposed (Ok made) same there = transposed made same there
  all_transposed (Err refusal) same there = same

  pub all_one : (result : Result Transform SizeRefusal) → IfOk result (λ made. made.images ≡ images) → IfOk result (λ made. GoesFrom made a j)
      → IfOk result (λ made. IsOnlyOutOfCoeval Q made i a j d answers h.rows h.nulls)
  all_one (Ok made) same there = one made same there
  all_one (Err refusal) same there = same

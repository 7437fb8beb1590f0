use Rattle.std.proofs.Common.{ℕ, List, [], ◌≡◌, ◌<◌, length, sym, ap, subst, ◌∙◌, arith}
use Rattle.std.specs.Prelude.{slice_get, slice_index_or}
use Rattle.std.proofs.lemmas.Option.{get_or_from_slice_get}
use Rattle.cq_theory.specs.SchemaData.{SchemaData as Schema}
use Rattle.cq_theory.specs.Canonical.{row_term}
use Rattle.cq_theory.specs.Tables.{count_of}
use Rattle.cq_instance.specs.InstanceData.{InstanceData}
use Rattle.cq_instance.specs.Given.{given}
use Rattle.cq_instance.specs.declared.transform.Image.TheVariants.{Row}
use Rattle.cq_instance.specs.declared.transform.Transform.{Transform}
use Rattle.cq_query.specs.QueryData.{QueryData as Query}
use Rattle.cq_adjoint.specs.Copies.{answers_at, place_of}
use Rattle.cq_adjoint.specs.QueryMoves.{answer_sent}
use Rattle.cq_adjoint.proofs.EvalImages.{known, row_counted, well_there, place_inside}
use Rattle.cq_adjoint.proofs.EvalMaps.{count_is}
use Rattle.cq_adjoint.proofs.SpelledTerms.{few_rows}
use Rattle.cq_adjoint.proofs.eval_maps.answer_image.Goals as goal

pub places_at-answers-requires : goal.places_at-answers-requires
places_at-answers-requires c =
    let m = c.args.evaluating.now in
    omega (
      arith,
      c.requires.evaluating.are.answered.count,
      known m.query.now c.is_well_sorted.ensures m.moved.now m.source.now m.target.now m.evaluated.now m.there.now m.from.now m.places.now c.requires.evaluating.are c.requires.evaluating.goes
          c.is_instance.ensures c.is_instance-2.ensures c.is_instance-3.ensures c.args.entity c.args.row c.requires.row,
    )

pub at-requires : goal.at-requires
at-requires c =
    let m = c.args.evaluating.now in
    subst (λ (l : List (List ℕ)). c.args.row < length l) (sym c.places_at-answers.ensures)
    (row_counted m.query.now c.is_well_sorted.ensures m.moved.now m.source.now m.target.now m.evaluated.now m.there.now m.from.now m.places.now c.requires.evaluating.are c.requires.evaluating.goes
    c.is_instance.ensures c.is_instance-2.ensures c.is_instance-3.ensures c.args.entity c.args.row c.requires.row)

pub answer_term-requires : goal.answer_term-requires
answer_term-requires c =
    let m = c.args.evaluating.now in
    let Q : Query = m.query.now in
    let h : Transform = m.moved.now in
    let i : InstanceData = m.source.now in
    let j : InstanceData = m.target.now in
    let b : InstanceData = m.there.now in
    let from : List (List (List ℕ)) = m.from.now in
    let to : List (List (List ℕ)) = m.places.now in
    let are = c.requires.evaluating.are in
    let e : ℕ = c.args.entity in
    let answer : slice_index_or (answers_at from e) c.args.row [] ≡ c.at.result.now =
    get_or_from_slice_get (answers_at from e) c.args.row c.at.result.now [] (ap (λ (l : List (List ℕ)). slice_get l c.args.row) (sym c.places_at-answers.ensures) ∙ c.at.ensures) in
    let rows : c.in_ok-rows.rows.items ≡ answer_sent Q h i j e (slice_index_or (answers_at from e) c.args.row []) = c.in_ok-rows.ensures ∙ ap (answer_sent Q h i j e) (sym answer) in
    let within : e < length Q.target.entities =
    known Q c.is_well_sorted.ensures h i j m.evaluated.now b from to are c.requires.evaluating.goes c.is_instance.ensures c.is_instance-2.ensures c.is_instance-3.ensures e c.args.row c.requires.row in
    record {
      entity = omega (arith, are.answered_there.count, within);
      few = omega (
        arith,
        count_is Q j.tables b.tables are.target.tables to are.answered_there e within,
        few_rows Q.target b are.target.given (well_there Q c.is_well_sorted.ensures h i j m.evaluated.now b from to are c.requires.evaluating.goes c.is_instance.ensures c.is_instance-2.ensures c.is_instance-3.ensures)
            c.is_instance-4.ensures e,
      );
      place = subst (λ (l : List ℕ). place_of (answers_at to e) l < count_of b.tables e) (sym rows)
          (place_inside Q c.is_well_sorted.ensures h i j m.evaluated.now b from to are c.requires.evaluating.goes c.is_instance.ensures c.is_instance-2.ensures c.is_instance-3.ensures e c.args.row c.requires.row);
      given = are.target.given ∙ ap (λ (S : Schema). given S b.tables) (sym (ap (λ (x : InstanceData). x.schema) are.target.given));
    }

pub returns : goal.returns
returns c =
    let m = c.args.evaluating.now in
    let Q : Query = m.query.now in
    let h : Transform = m.moved.now in
    let i : InstanceData = m.source.now in
    let j : InstanceData = m.target.now in
    let b : InstanceData = m.there.now in
    let from : List (List (List ℕ)) = m.from.now in
    let to : List (List (List ℕ)) = m.places.now in
    let e : ℕ = c.args.entity in
    let answer : slice_index_or (answers_at from e) c.args.row [] ≡ c.at.result.now =
    get_or_from_slice_get (answers_at from e) c.args.row c.at.result.now [] (ap (λ (l : List (List ℕ)). slice_get l c.args.row) (sym c.places_at-answers.ensures) ∙ c.at.ensures) in
    let rows : c.in_ok-rows.rows.items ≡ answer_sent Q h i j e (slice_index_or (answers_at from e) c.args.row []) = c.in_ok-rows.ensures ∙ ap (answer_sent Q h i j e) (sym answer) in
    ap Row (c.in_ok-name.ensures ∙ ap (λ (l : List ℕ). row_term b.schema b.tables e (place_of (answers_at to e) l)) rows)

use Rattle.std.proofs.Common.{ℕ, List, [], ◌∷◌, ◌++◌, Some, ◌≡◌, ◌<◌, map, take, get_or, sym, ap, subst, ◌∙◌, append_assoc}
use Rattle.std.specs.Prelude.{slice_get, slice_index, slice_index_or}
use Rattle.std.specs.List.{enumerate_from}
use Rattle.cq_base.specs.declared.name.Name.{Name}
use Rattle.cq_theory.specs.Tables.{count_of}
use Rattle.cq_instance.specs.InstanceData.{InstanceData, name_at}
use Rattle.cq_instance.specs.declared.transform.Image.{Image}
use Rattle.cq_instance.specs.declared.transform.Image.TheVariants.{Row}
use Rattle.cq_instance.specs.declared.transform.Transform.{Transform}
use Rattle.cq_instance.proofs.Enumerated.{enumerated_more}
use Rattle.cq_transform.proofs.Loops.{read_at}
use Rattle.cq_query.specs.QueryData.{QueryData as Query}
use Rattle.cq_query.specs.Translation.{variables_at}
use Rattle.cq_adjoint.specs.Answering.{answers_in}
use Rattle.cq_adjoint.specs.AnswerNames.{answer_of, row_named}
use Rattle.cq_adjoint.specs.Copies.{answers_at}
use Rattle.cq_instance.specs.Spelling.{term_among}
use Rattle.cq_adjoint.proofs.FromEval.{named_within}
use Rattle.cq_adjoint.proofs.answering.push_names.Goals as goal

pub name_row-requires : goal.name_row-requires
name_row-requires c =
    let m = c.args.answering.now in
    let Q : Query = m.query.now in
    let h : Transform = m.moved.now in
    let i : InstanceData = m.source.now in
    let j : InstanceData = m.target.now in
    let d : InstanceData = m.evaluated.now in
    let e : ℕ = c.args.entity in
    let n : ℕ = c.loop-number.number in
    let place : c.row_at-place.result ≡ slice_index (slice_index_or h.rows e []) c.args.row =
    c.row_at-place.ensures ∙ ap (λ (l : List (List ℕ)). slice_index (slice_index_or l e []) c.args.row) c.as_slice.ensures in
    let answer : c.answer_at-answer.result.now ≡ answer_of Q h i j d (answers_in m) e c.args.row =
    c.answer_at-answer.ensures ∙ ap (λ (p : ℕ). slice_index_or (answers_at (answers_in m) e) p []) place in
    let named : c.number_at-named.result ≡ slice_index (answer_of Q h i j d (answers_in m) e c.args.row) n =
    c.number_at-named.ensures ∙ ap (λ (l : List ℕ). slice_index l n) answer in
    let at : slice_get (variables_at Q e) n ≡ Some c.index-variables-number.result =
    ap (λ (l : List (Name × ℕ)). slice_get l n) (sym c.variables-variables.ensures)
    ∙ read_at c.variables-variables.result.now n c.index-variables-number.result c.loop-number-test.true c.index-variables-number.is in
    subst (λ (r : ℕ). r < count_of j.tables c.index-variables-number.result.1) (sym named)
    (named_within Q c.is_well_sorted.ensures h i m.copies.now j d (answers_in m) c.requires.answering.across c.requires.answering.goes c.is_instance.ensures c.is_instance-2.ensures c.requires.answering.least.1
    (term_among m.null_terms.now) c.requires.answering.spelled e c.args.row n c.index-variables-number.result c.requires.row at)

pub loop-number-preserved : goal.loop-number-preserved
loop-number-preserved c =
    let m = c.args.answering.now in
    let Q : Query = m.query.now in
    let h : Transform = m.moved.now in
    let i : InstanceData = m.source.now in
    let j : InstanceData = m.target.now in
    let d : InstanceData = m.evaluated.now in
    let e : ℕ = c.args.entity in
    let n : ℕ = c.loop-number.number in
    let f : ℕ × (Name × ℕ) → Image = row_named Q h i j d (answers_in m) e c.args.row in
    let vs : List (Name × ℕ) = c.variables-variables.result.now in
    let place : c.row_at-place.result ≡ slice_index (slice_index_or h.rows e []) c.args.row =
    c.row_at-place.ensures ∙ ap (λ (l : List (List ℕ)). slice_index (slice_index_or l e []) c.args.row) c.as_slice.ensures in
    let answer : c.answer_at-answer.result.now ≡ answer_of Q h i j d (answers_in m) e c.args.row =
    c.answer_at-answer.ensures ∙ ap (λ (p : ℕ). slice_index_or (answers_at (answers_in m) e) p []) place in
    let named : c.number_at-named.result ≡ slice_index (answer_of Q h i j d (answers_in m) e c.args.row) n =
    c.number_at-named.ensures ∙ ap (λ (l : List ℕ). slice_index l n) answer in
    let made : c.in_ok-name_row.field-0 ≡ f (n, get_or vs n c.index-variables-number.result) =
    c.in_ok-name_row.ensures ∙ ap (λ (r : ℕ). Row (name_at j.names c.index-variables-number.result.1 r)) named ∙ ap (λ (v : Name × ℕ). f (n, v)) c.index-variables-number.is in
    c.in_ok-push.ensures.items ∙ (λ k. c.loop-number.invariant k ++ made k ∷ [])
    ∙ append_assoc c.args.made.now.items (map f (enumerate_from 0 (take n vs))) (f (n, get_or vs n c.index-variables-number.result) ∷ [])
    ∙ ap (λ l. c.args.made.now.items ++ l) (sym (enumerated_more f vs n c.index-variables-number.result c.loop-number-test.true))

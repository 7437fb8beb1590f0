use Rattle.std.proofs.Common.{ℕ, List, [], ◌++◌, ◌≡◌, ◌<◌, ◌≤◌, map, length, ap, ◌∙◌, arith}
use Rattle.std.specs.List.{flat_map}
use Rattle.cq_theory.specs.Canonical.{below}
use Rattle.cq_theory.specs.Tables.{count_of}
use Rattle.cq_instance.specs.declared.transform.Image.{Image}
use Rattle.cq_query.proofs.Copying.{pushed_below}
use Rattle.cq_adjoint.specs.Answering.{answers_in}
use Rattle.cq_adjoint.specs.AnswerNames.{rows_named, null_named}
use Rattle.cq_instance.specs.Spelling.{term_among}
use Rattle.cq_adjoint.proofs.answering.images.Goals as goal

pub loop-entity-preserved : goal.loop-entity-preserved
loop-entity-preserved c =
    let m = c.args.answering.now in
    let f : ℕ → List Image = λ entity. flat_map (rows_named m.query.now m.moved.now m.source.now m.target.now m.evaluated.now (answers_in m) entity) (below (count_of m.source.now.tables entity)) in
    pushed_below f [] c.loop-entity.images.items _ c.loop-entity.entity c.loop-entity.invariant c.in_ok-push_rows.ensures

pub returns : goal.returns
returns c =
    let m = c.args.answering.now in
    let f : ℕ → List Image = λ entity. flat_map (rows_named m.query.now m.moved.now m.source.now m.target.now m.evaluated.now (answers_in m) entity) (below (count_of m.source.now.tables entity)) in
    let nulls : List Image = map (null_named m.query.now m.moved.now m.source.now m.target.now m.evaluated.now (answers_in m) (term_among m.null_terms.now)) (below (length m.source.now.tables.algebra.nulls)) in
    let last : c.loop-entity.entity ≡ length m.query.now.target.entities = omega (arith, c.loop-entity-test.false, c.loop-entity.auto.entity-end, c.entity_count-entity-end.ensures) in
    c.in_ok-push_nulls.ensures ∙ ap (λ l. l ++ nulls) (c.loop-entity.invariant ∙ ap (λ n. flat_map f (below n)) last)

use Rattle.std.proofs.Common.{sym, subst, ◌<◌, length}
use Rattle.cq_theory.specs.SchemaData.{SchemaData as Schema}
use Rattle.cq_query.proofs.Copying.{pushed_below}
use Rattle.cq_adjoint.specs.Answering.{answers_in}
use Rattle.cq_adjoint.specs.AnswerNames.{rows_named}
use Rattle.cq_adjoint.proofs.answering.push_rows.Goals as goal

pub count-row-end-requires : goal.count-row-end-requires
count-row-end-requires c = subst (λ (S : Schema). c.args.entity < length S.entities) (sym c.requires.answering.across.coeval.over) c.requires.entity

pub loop-row-preserved : goal.loop-row-preserved
loop-row-preserved c =
    let m = c.args.answering.now in
    pushed_below (rows_named m.query.now m.moved.now m.source.now m.target.now m.evaluated.now (answers_in m) c.args.entity) c.args.made.now.items c.loop-row.made.items _ c.loop-row.row c.loop-row.invariant c.in_ok-push_names.ensures

use Rattle.std.proofs.Common.{sym, subst, ap, ◌<◌, length, ℕ}
use Rattle.cq_theory.specs.SchemaData.{SchemaData as Schema}
use Rattle.cq_query.proofs.Copying.{pushed_below}
use Rattle.cq_adjoint.specs.QueryMoves.{copies_of_row}
use Rattle.cq_adjoint.proofs.coeval_maps.push_rows.Goals as goal

pub loop-row-preserved : goal.loop-row-preserved
loop-row-preserved c =
    let m = c.args.copying.now in
    pushed_below (copies_of_row m.query.now m.moved.now m.source.now m.target.now c.args.entity) c.args.made.now.items c.loop-row.made.items _ c.loop-row.row c.loop-row.invariant c.in_ok-push_copies.ensures

pub count-row-end-requires : goal.count-row-end-requires
count-row-end-requires c = subst (λ (S : Schema). c.args.entity < length S.entities) (sym c.requires.copying.copied.over) c.requires.entity

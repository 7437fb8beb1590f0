use Rattle.std.proofs.Common.{ℕ, ◌≡◌, ◌<◌, ◌≤◌, ◌+◌, ◌++◌, ◌∷◌, [], length, sym, ap, ◌∙◌, arith}
use Rattle.cq_theory.specs.declared.value.Algebra.{Algebra}
use Rattle.cq_adjoint.specs.QueryMoves.{null_sent}
use Rattle.cq_adjoint.proofs.CoevalTerms.{few_generators}
use Rattle.cq_adjoint.proofs.Appended.{mapped_below}
use Rattle.cq_adjoint.proofs.coeval_maps.push_nulls.Goals as goal

pub overflow_cast-nulls : goal.overflow_cast-nulls
overflow_cast-nulls c =
    let m = c.args.copying.now in
    let few = few_generators m.query.now c.is_well_sorted.ensures m.source.now m.copies.now c.requires.copied c.is_instance.ensures c.is_instance-2.ensures in
    omega (arith, few, c.len-nulls.ensures, ap (λ (g : Algebra). length g.nulls) c.algebra.ensures.algebra)

pub loop-label-preserved : goal.loop-label-preserved
loop-label-preserved c =
    let m = c.args.copying.now in
    mapped_below (null_sent m.query.now m.moved.now m.source.now m.target.now) c.args.made.now.items c.loop-label.made.items _ c.loop-label.label c.loop-label.invariant
    (c.in_ok-push.ensures.items ∙ ap (λ x. c.loop-label.made.items ++ x ∷ []) c.in_ok-null_image.ensures)

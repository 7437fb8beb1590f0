use Rattle.std.proofs.Common.{ℕ, ◌≡◌, ◌<◌, ◌≤◌, ◌+◌, ◌++◌, ◌∷◌, [], length, ap, ◌∙◌, arith}
use Rattle.cq_theory.specs.declared.value.Algebra.{Algebra}
use Rattle.cq_adjoint.specs.Answering.{answers_in}
use Rattle.cq_adjoint.specs.AnswerNames.{null_named}
use Rattle.cq_instance.specs.Spelling.{term_among}
use Rattle.cq_adjoint.proofs.Appended.{mapped_below}
use Rattle.cq_adjoint.proofs.CoevalTerms.{few_generators}
use Rattle.cq_adjoint.proofs.answering.push_nulls.Goals as goal

pub overflow_cast-nulls : goal.overflow_cast-nulls
overflow_cast-nulls c =
    let m = c.args.answering.now in
    let few = few_generators m.query.now c.is_well_sorted.ensures m.source.now m.copies.now c.requires.across.coeval c.is_instance.ensures c.is_instance-2.ensures in
    omega (arith, few, c.len-nulls.ensures, ap (λ (g : Algebra). length g.nulls) c.algebra.ensures.algebra)

pub loop-label-preserved : goal.loop-label-preserved
loop-label-preserved c =
    let m = c.args.answering.now in
    mapped_below (null_named m.query.now m.moved.now m.source.now m.target.now m.evaluated.now (answers_in m) (term_among m.null_terms.now)) c.args.made.now.items c.loop-label.made.items _ c.loop-label.label
    c.loop-label.invariant (c.in_ok-push.ensures.items ∙ ap (λ x. c.loop-label.made.items ++ x ∷ []) c.in_ok-null_image.ensures)

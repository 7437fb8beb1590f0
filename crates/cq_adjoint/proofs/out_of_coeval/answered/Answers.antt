use Rattle.std.proofs.Common.{List, true, false, ◌≡◌, refl, inr, sym, ap, subst, ◌∙◌}
use Rattle.cq_instance.specs.InstanceData.{InstanceData}
use Rattle.cq_transform.specs.Composing.{has_long}
use Rattle.cq_transform.specs.Transforming.{AreKept, AreSorted}
use Rattle.cq_adjoint.specs.Answering.{answers_in}
use Rattle.cq_instance.specs.Spelling.{term_among}
use Rattle.cq_adjoint.proofs.FromEval.{schemas, sorted, are_kept}
use Rattle.cq_adjoint.proofs.out_of_coeval.answered.Goals as goal

pub transform_of_images-requires : goal.transform_of_images-requires
transform_of_images-requires c =
    let m = c.args.answering.now in
    let a : InstanceData = m.copies.now in
    let j : InstanceData = m.target.now in
    record {
      schema = schemas m.query.now c.is_well_sorted.ensures m.moved.now m.source.now a j m.evaluated.now (answers_in m) c.requires.across c.requires.goes c.is_instance.ensures c.is_instance-2.ensures
          c.requires.least.1 (term_among m.null_terms.now) c.requires.spelled;
      sorted = subst (AreSorted a j) (sym c.in_ok-images.ensures)
          (sorted m.query.now c.is_well_sorted.ensures m.moved.now m.source.now a j m.evaluated.now (answers_in m) c.requires.across c.requires.goes c.is_instance.ensures c.is_instance-2.ensures
          c.requires.least.1 (term_among m.null_terms.now) c.requires.spelled);
      kept = subst (AreKept a j) (sym c.in_ok-images.ensures)
          (are_kept m.query.now c.is_well_sorted.ensures m.moved.now m.source.now a j m.evaluated.now (answers_in m) c.requires.across c.requires.goes c.is_instance.ensures c.is_instance-2.ensures
          c.requires.least.1 (term_among m.null_terms.now) c.requires.spelled);
    }

pub returns-then-has_long-clause-refused : goal.returns-then-has_long-clause-refused
returns-then-has_long-clause-refused c = inr (refl, ap has_long (sym (c.as_slice.ensures.value ∙ c.in_ok-images.ensures)) ∙ sym c.has_long.ensures ∙ c.if-has_long.true)

pub returns-in-Ok-clause-images : goal.returns-in-Ok-clause-images
returns-in-Ok-clause-images c = c.in-Ok.ensures.images ∙ c.in_ok-images.ensures

pub returns-in-Ok-clause-goes : goal.returns-in-Ok-clause-goes
returns-in-Ok-clause-goes c = c.in-Ok.ensures.goes c.requires.across.coeval.initial

pub returns-in-Ok-clause-fits : goal.returns-in-Ok-clause-fits
returns-in-Ok-clause-fits c = ap has_long (c.in-Ok.ensures.images ∙ sym c.as_slice.ensures.value) ∙ sym c.has_long.ensures ∙ c.if-has_long.false

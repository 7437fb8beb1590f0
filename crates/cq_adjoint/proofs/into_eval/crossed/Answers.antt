use Rattle.std.proofs.Common.{ℕ, List, true, false, ◌≡◌, refl, inr, sym, ap, subst, ◌∙◌}
use Rattle.cq_instance.specs.InstanceData.{InstanceData}
use Rattle.cq_instance.specs.declared.transform.Image.{Image}
use Rattle.cq_instance.specs.declared.transform.Transform.{Transform}
use Rattle.cq_query.specs.QueryData.{QueryData as Query}
use Rattle.cq_transform.specs.Composing.{has_long}
use Rattle.cq_transform.specs.Transforming.{AreKept, AreSorted}
use Rattle.cq_adjoint.proofs.ToEval.{schemas, sorted, are_kept}
use Rattle.cq_adjoint.proofs.into_eval.crossed.Goals as goal

pub transform_of_images-requires : goal.transform_of_images-requires
transform_of_images-requires c =
    let Q : Query = c.args.crossing.now.query.now in
    let h : Transform = c.args.crossing.now.moved.now in
    let i : InstanceData = c.args.crossing.now.source.now in
    let a : InstanceData = c.args.crossing.now.copies.now in
    let j : InstanceData = c.args.crossing.now.target.now in
    let d : InstanceData = c.args.crossing.now.evaluated.now in
    let answers : List (List (List ℕ)) = c.args.crossing.now.places.now in
    record {
      schema = schemas Q c.is_well_sorted.ensures h i a j d answers c.requires.across c.requires.goes c.is_instance.ensures c.is_instance-2.ensures;
      sorted = subst (AreSorted i d) (sym c.in_ok-images.ensures) (sorted Q c.is_well_sorted.ensures h i a j d answers c.requires.across c.requires.goes c.is_instance.ensures c.is_instance-2.ensures);
      kept = subst (AreKept i d) (sym c.in_ok-images.ensures) (are_kept Q c.is_well_sorted.ensures h i a j d answers c.requires.across c.requires.goes c.is_instance.ensures c.is_instance-2.ensures);
    }

pub returns-then-has_long-clause-refused : goal.returns-then-has_long-clause-refused
returns-then-has_long-clause-refused c = inr (refl, ap has_long (sym (c.as_slice.ensures.value ∙ c.in_ok-images.ensures)) ∙ sym c.has_long.ensures ∙ c.if-has_long.true)

pub returns-in-Ok-clause-images : goal.returns-in-Ok-clause-images
returns-in-Ok-clause-images c = c.in-Ok.ensures.images ∙ c.in_ok-images.ensures

pub returns-in-Ok-clause-goes : goal.returns-in-Ok-clause-goes
returns-in-Ok-clause-goes c = c.in-Ok.ensures.goes c.requires.across.initial

pub returns-in-Ok-clause-fits : goal.returns-in-Ok-clause-fits
returns-in-Ok-clause-fits c = ap has_long (c.in-Ok.ensures.images ∙ sym c.as_slice.ensures.value) ∙ sym c.has_long.ensures ∙ c.if-has_long.false

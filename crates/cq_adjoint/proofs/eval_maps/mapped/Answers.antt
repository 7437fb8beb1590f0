use Rattle.std.proofs.Common.{ℕ, List, true, false, ◌≡◌, refl, inr, sym, ap, subst, ◌∙◌}
use Rattle.cq_instance.specs.InstanceData.{InstanceData}
use Rattle.cq_transform.specs.Composing.{has_long}
use Rattle.cq_transform.specs.Transforming.{AreKept, AreSorted}
use Rattle.cq_theory.specs.SchemaData.{SchemaData as Schema}
use Rattle.cq_theory.specs.Tables.{IsWellFormed, Satisfies}
use Rattle.cq_query.specs.QueryData.{QueryData as Query}
use Rattle.cq_adjoint.proofs.SpelledTerms.{given_initial}
use Rattle.cq_adjoint.proofs.EvalImages.{schemas, sorted, are_kept}
use Rattle.cq_adjoint.proofs.eval_maps.mapped.Goals as goal

pub transform_of_images-requires : goal.transform_of_images-requires
transform_of_images-requires c =
    let m = c.args.evaluating.now in
    let a : InstanceData = m.evaluated.now in
    let b : InstanceData = m.there.now in
    record {
      schema = schemas m.query.now c.is_well_sorted.ensures m.moved.now m.source.now m.target.now a b m.from.now m.places.now c.requires.are c.requires.goes c.is_instance.ensures c.is_instance-2.ensures c.is_instance-3.ensures;
      sorted = subst (AreSorted a b) (sym c.in_ok-images.ensures)
          (sorted m.query.now c.is_well_sorted.ensures m.moved.now m.source.now m.target.now a b m.from.now m.places.now c.requires.are c.requires.goes c.is_instance.ensures c.is_instance-2.ensures c.is_instance-3.ensures);
      kept = subst (AreKept a b) (sym c.in_ok-images.ensures)
          (are_kept m.query.now c.is_well_sorted.ensures m.moved.now m.source.now m.target.now a b m.from.now m.places.now c.requires.are c.requires.goes c.is_instance.ensures c.is_instance-2.ensures c.is_instance-3.ensures);
    }

pub returns-then-has_long-clause-refused : goal.returns-then-has_long-clause-refused
returns-then-has_long-clause-refused c = inr (refl, ap has_long (sym (c.as_slice.ensures.value ∙ c.in_ok-images.ensures)) ∙ sym c.has_long.ensures ∙ c.if-has_long.true)

pub returns-in-Ok-clause-images : goal.returns-in-Ok-clause-images
returns-in-Ok-clause-images c = c.in-Ok.ensures.images ∙ c.in_ok-images.ensures

pub returns-in-Ok-clause-goes : goal.returns-in-Ok-clause-goes
returns-in-Ok-clause-goes c =
    let Q : Query = c.args.evaluating.now.query.now in
    let a : InstanceData = c.args.evaluating.now.evaluated.now in
    let over : a.schema ≡ Q.target = ap (λ (x : InstanceData). x.schema) c.requires.are.source.given in
    c.in-Ok.ensures.goes (given_initial Q.target a c.requires.are.source.given (subst (λ (S : Schema). IsWellFormed S a.tables) over c.is_instance-3.ensures.well_formed) c.is_well_sorted.ensures.target
    (subst (λ (S : Schema). Satisfies S a.tables) over c.is_instance-3.ensures.satisfies))

pub returns-in-Ok-clause-fits : goal.returns-in-Ok-clause-fits
returns-in-Ok-clause-fits c = ap has_long (c.in-Ok.ensures.images ∙ sym c.as_slice.ensures.value) ∙ sym c.has_long.ensures ∙ c.if-has_long.false

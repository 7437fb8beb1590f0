use Rattle.std.proofs.Common.{List, None, ◌≡◌, refl, sym, ap, subst, ◌∙◌}
use Rattle.cq_base.specs.declared.name.Name.{Name}
use Rattle.cq_base.specs.declared.raw.Raw.{Raw}
use Rattle.cq_instance.specs.InstanceData.{InstanceData}
use Rattle.cq_instance.specs.declared.transform.Transform.{Transform}
use Rattle.cq_transform.specs.Images.{images_fault, images_made}
use Rattle.cq_transform.specs.Refusals.{TellsUnequal}
use Rattle.cq_transform.specs.Transforms.{meanings_in}
use Rattle.cq_transform.specs.Transforming.{AreKept, AreRight, Tells}
use Rattle.cq_transform.proofs.Answered.{if_ok, if_err}
use Rattle.cq_transform.proofs.Told.{tells_unequal}
use Rattle.cq_transform.proofs.transforming.transform.Goals as goal

pub returns-in-Ok-clause-right : goal.returns-in-Ok-clause-right
returns-in-Ok-clause-right c =
    let i : InstanceData = c.args.source.now in
    let j : InstanceData = c.args.target.now in
    let none : images_fault i j c.args.parts.items ≡ None = ap (images_fault i j) (sym c.as_slice.ensures.value) ∙ c.in-Ok.ensures.accepted in
    let made : c.in-Ok.images.items ≡ images_made i j c.args.parts.items = c.in-Ok.ensures.made ∙ ap (images_made i j) c.as_slice.ensures.value in
    if_ok c.transform_by.result (λ _. AreKept i j c.in-Ok.images.items) (λ _. AreRight i j c.args.parts.items)
    (λ _ kept. record { images = none; kept = subst (AreKept i j) made kept }) c.transform_by.ensures.kept

pub returns-in-Ok-clause-images : goal.returns-in-Ok-clause-images
returns-in-Ok-clause-images c =
    let i : InstanceData = c.args.source.now in
    let j : InstanceData = c.args.target.now in
    let made : c.in-Ok.images.items ≡ images_made i j c.args.parts.items = c.in-Ok.ensures.made ∙ ap (images_made i j) c.as_slice.ensures.value in
    if_ok c.transform_by.result (λ (t : Transform). t.images ≡ c.in-Ok.images.items) (λ (t : Transform). t.images ≡ images_made i j c.args.parts.items)
    (λ t same. same ∙ made) c.transform_by.ensures.images

pub returns-in-Ok-clause-refused : goal.returns-in-Ok-clause-refused
returns-in-Ok-clause-refused c =
    let i : InstanceData = c.args.source.now in
    let j : InstanceData = c.args.target.now in
    let none : images_fault i j c.args.parts.items ≡ None = ap (images_fault i j) (sym c.as_slice.ensures.value) ∙ c.in-Ok.ensures.accepted in
    let made : c.in-Ok.images.items ≡ images_made i j c.args.parts.items = c.in-Ok.ensures.made ∙ ap (images_made i j) c.as_slice.ensures.value in
    if_err c.transform_by.result (TellsUnequal j.tables (meanings_in j c.in-Ok.images.items) i.presentation.equations) (Tells i j c.args.parts.items)
    (λ refusal told. tells_unequal i j c.args.parts.items c.in-Ok.images.items (meanings_in j c.in-Ok.images.items) i.presentation.equations refusal none made refl refl told)
    c.transform_by.ensures.refused

pub returns-clause-refused : goal.returns-clause-refused
returns-clause-refused c =
    subst (λ (parts : List (Name × Raw)). Tells c.args.source.now c.args.target.now parts c.in-Err.refusal) c.as_slice.ensures.value c.in-Err.ensures.refused

use Rattle.std.proofs.Common.{List, Ok, ◌≡◌, ◌<◌, ◌^◌, length, sym, subst, ◌∙◌, ap}
use Rattle.cq_base.specs.declared.name.Name.{Name}
use Rattle.cq_base.specs.declared.raw.Raw.{Raw}
use Rattle.cq_instance.specs.declared.transform.Image.{Image}
use Rattle.cq_transform.specs.Transforming.{Tells}
use Rattle.cq_program.specs.Posed.{a_transform}
use Rattle.cq_environment.specs.Environment.{ends_meant}
use Rattle.cq_program.specs.Posing.{IsTransformOf}
use Rattle.cq_program.proofs.ImagesPosed.{images_accepted, images_fit}
use Rattle.cq_program.proofs.transforms.stating.pose_images.Goals as goal

pub make_transform-requires-clause-parts : goal.make_transform-requires-clause-parts
make_transform-requires-clause-parts c = subst (λ n. n < 2 ^ 32) (sym (ap length c.in_ok-parts.ensures ∙ images_fit c.args.literal.now)) c.requires.few

pub returns-in-Ok-clause-posed : goal.returns-in-Ok-clause-posed
returns-in-Ok-clause-posed c =
    images_accepted c.args.place c.args.literal.now (ends_meant c.args.ends) c.in_ok-parts.parts.items c.in_ok-parts.ensures c.in-Ok.ensures.accepted
    ∙ ap (λ (l : List Image). Ok (a_transform (ends_meant c.args.ends) l)) (sym c.in-Ok.ensures.stands.images_are)

pub returns-in-Ok-clause-well_sorted : goal.returns-in-Ok-clause-well_sorted
returns-in-Ok-clause-well_sorted c =
    subst (λ (l : List Image). IsTransformOf (ends_meant c.args.ends) l c.in-Ok.made) (sym c.in-Ok.ensures.stands.images_are) c.in-Ok.ensures.stands

pub refuse_images-requires : goal.refuse_images-requires
refuse_images-requires c =
    subst (λ (parts : List (Name × Raw)). Tells c.args.ends.start.instance.value c.args.ends.finish.instance.value parts c.in-Err.refusal) c.in_ok-parts.ensures c.in-Err.ensures.refused

use Rattle.std.proofs.Common.{◌≡◌, sym, subst, ◌∙◌, ap}
use Rattle.cq_theory.specs.SchemaData.{SchemaData}
use Rattle.cq_environment.specs.Meanings.{Ends, InstanceMeant}
use Rattle.cq_program.specs.Transforms.{images_posed}
use Rattle.cq_environment.specs.Environment.{Answers, AreEnds, IsTermModel, ends_meant, environment_of, instance_meant}
use Rattle.cq_program.specs.Posing.{posed_as}
use Rattle.cq_program.proofs.ImagesPosed.{images_are_posed, images_grounded}
use Rattle.cq_program.proofs.Settled.{instance_meant_by, instance_modelled, instance_settled, one_printed}
use Rattle.cq_program.proofs.transforms.stating.pose_transform.Goals as goal

pub pose_images-requires-clause-over : goal.pose_images-requires-clause-over
pose_images-requires-clause-over c =
    let env = environment_of c.args.env.now.names.entries in
    let i : InstanceMeant = instance_meant c.in_ok-start.start in
    let j : InstanceMeant = instance_meant c.in_ok-finish.finish in
    let same : i.instance.schema ≡ j.instance.schema =
    one_printed env i.schema j.schema i.instance.schema j.instance.schema (instance_settled env c.args.literal.now.source i c.requires.settled c.in_ok-start.ensures)
    (instance_settled env c.args.literal.now.target j c.requires.settled c.in_ok-finish.ensures) c.if-ne.ensures in
    ap (λ (e : Ends). e.finish.instance.schema) c.in-Ok.ensures ∙ sym same ∙ sym (ap (λ (e : Ends). e.start.instance.schema) c.in-Ok.ensures)

pub pose_images-requires-clause-modelled : goal.pose_images-requires-clause-modelled
pose_images-requires-clause-modelled c =
    let env = environment_of c.args.env.now.names.entries in
    let i : InstanceMeant = instance_meant c.in_ok-start.start in
    subst (λ (e : Ends). IsTermModel e.start.instance) (sym c.in-Ok.ensures) (instance_modelled env c.args.literal.now.source i c.requires.settled c.in_ok-start.ensures)

pub returns-in-Ok-clause-posed : goal.returns-in-Ok-clause-posed
returns-in-Ok-clause-posed c =
    let env = environment_of c.args.env.now.names.entries in
    let i : InstanceMeant = instance_meant c.in_ok-start.start in
    let j : InstanceMeant = instance_meant c.in_ok-finish.finish in
    let same = images_are_posed env c.args.place c.args.literal.now i j c.in_ok-start.ensures c.in_ok-finish.ensures c.if-ne.ensures in
    subst (Answers posed_as c.pose_images.result) (ap (images_posed c.args.place c.args.literal.now) c.in-Ok.ensures ∙ sym same) c.pose_images.ensures.posed

pub returns-in-Ok-clause-grounded : goal.returns-in-Ok-clause-grounded
returns-in-Ok-clause-grounded c = λ name.
    let env = environment_of c.args.env.now.names.entries in
    let i : InstanceMeant = instance_meant c.in_ok-start.start in
    let j : InstanceMeant = instance_meant c.in_ok-finish.finish in
    let are : AreEnds env (ends_meant c.in-Ok.ends) =
    subst (AreEnds env) (sym c.in-Ok.ensures) (instance_meant_by env c.args.literal.now.source i c.in_ok-start.ensures, instance_meant_by env c.args.literal.now.target j c.in_ok-finish.ensures) in
    images_grounded env name c.args.place c.args.literal.now (ends_meant c.in-Ok.ends) c.pose_images.result are c.pose_images.ensures.posed

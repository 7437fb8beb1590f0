use Rattle.std.proofs.Common.{subst}
use Rattle.cq_transform.specs.declared.refusal.TransformRefusal.{TransformRefusal}
use Rattle.cq_transform.specs.Transforming.{Tells}
use Rattle.cq_environment.specs.Environment.{ends_meant}
use Rattle.cq_parts.specs.Parts.{transform_parts}
use Rattle.cq_program.proofs.ImagesPosed.{images_refused}
use Rattle.cq_program.proofs.transforms.stating.refuse_images.Goals as goal

pub returns-in-Ok-clause-posed : goal.returns-in-Ok-clause-posed
returns-in-Ok-clause-posed c =
    images_refused c.args.place c.args.literal.now (ends_meant c.args.ends) c.args.refusal c.in-Ok.rule c.tell_rule.result c.requires c.in-Ok.ensures.rule c.tell_rule.ensures

pub pose_broken-requires : goal.pose_broken-requires
pose_broken-requires c =
    subst (λ (r : TransformRefusal). Tells c.args.ends.start.instance.value c.args.ends.finish.instance.value (transform_parts c.args.literal.now) r) c.in-Err.ensures.number c.requires

pub returns-in-Err-clause-posed : goal.returns-in-Err-clause-posed
returns-in-Err-clause-posed c = c.pose_broken.ensures.posed c.args.place

use Rattle.std.proofs.Common.{List, None, ◌≡◌, sym, subst, ◌∙◌}
use Rattle.cq_base.specs.declared.name.Name.{Name}
use Rattle.cq_base.specs.declared.raw.Raw.{Raw}
use Rattle.cq_transform.specs.Images.{images_fault, images_made}
use Rattle.cq_transform.specs.Refusals.{IsBrokenAt}
use Rattle.cq_environment.specs.Environment.{ends_meant}
use Rattle.cq_parts.specs.Parts.{transform_parts}
use Rattle.cq_program.proofs.ImagesPosed.{images_accepted}
use Rattle.cq_program.proofs.transforms.stating.pose_broken.Goals as goal

pub returns-in-Ok-clause-posed : goal.returns-in-Ok-clause-posed
returns-in-Ok-clause-posed c = λ place.
    let are : c.from_vec.result ≡ transform_parts c.args.literal.now = c.from_vec.ensures ∙ c.in-Ok.ensures in
    let none = subst (λ (parts : List (Name × Raw)). images_fault c.args.ends.start.instance.value c.args.ends.finish.instance.value parts ≡ None) (sym are) c.requires.0 in
    images_accepted place c.args.literal.now (ends_meant c.args.ends) c.from_vec.result are none

pub returns-in-Ok-clause-well_sorted : goal.returns-in-Ok-clause-well_sorted
returns-in-Ok-clause-well_sorted c =
    let are : c.from_vec.result ≡ transform_parts c.args.literal.now = c.from_vec.ensures ∙ c.in-Ok.ensures in
    subst (λ (parts : List (Name × Raw)). IsBrokenAt c.args.ends.start.instance.value c.args.ends.finish.instance.value
    (images_made c.args.ends.start.instance.value c.args.ends.finish.instance.value parts) c.args.number) (sym are) c.requires.1

use Rattle.std.proofs.Common.{◌≡◌, subst}
use Rattle.cq_transform.specs.Transforms.{GoesFrom}
use Rattle.cq_environment.specs.Meanings.{InstanceMeant, TransformMeant}
use Rattle.cq_environment.specs.Environment.{environment_of, transform_meant}
use Rattle.cq_program.proofs.Settled.{one_start, start_printed, transform_settled}
use Rattle.cq_program.proofs.gluing.stating.pose_pushout.Goals as goal

pub returns-clause-well_sorted : goal.returns-clause-well_sorted
returns-clause-well_sorted c =
    let env = environment_of c.args.env.now.names.entries in
    let f : TransformMeant = transform_meant c.in_ok-left.left in
    let g : TransformMeant = transform_meant c.in_ok-right.right in
    let left = transform_settled env c.args.first.now f c.requires.settled c.in_ok-left.ensures in
    let right = transform_settled env c.args.second.now g c.requires.settled c.in_ok-right.ensures in
    let same : g.ends.start ≡ f.ends.start = one_start env f.ends g.ends left.0 right.0 c.if-ne.ensures in
    (left.1, subst (λ (i : InstanceMeant). GoesFrom g.transform i.instance g.ends.finish.instance) same right.1)

pub returns-clause-grounded : goal.returns-clause-grounded
returns-clause-grounded c = λ name.
    let env = environment_of c.args.env.now.names.entries in
    let f : TransformMeant = transform_meant c.in_ok-left.left in
    let left = transform_settled env c.args.first.now f c.requires.settled c.in_ok-left.ensures in
    start_printed env f c.requires.settled left

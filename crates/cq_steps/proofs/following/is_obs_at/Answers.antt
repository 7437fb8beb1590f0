use Rattle.std.proofs.Common.{◌≡◌, Some}
use Rattle.cq_theory.specs.Sorts.{entity_of}
use Rattle.cq_steps.proofs.Deciding.{by_sides}
use Rattle.cq_steps.proofs.following.is_obs_at.Goals as goal

pub returns : goal.returns
returns c =
    let of_entity : entity_of c.args.schema.now c.args.presentation.now.generators c.args.at.now ≡ Some c.in-Some.of.now.entity = c.is_of_entity.ensures.0 c.if-not-is_of_entity.false in
    by_sides c.args.schema.now c.args.presentation.now c.args.number c.in-Some.of.now c.args.at.now c.args.equation.now c.in_ok-left.left c.in_ok-right.right c.has_sides.result
    c.in-Some.ensures of_entity c.in_ok-left.ensures c.in_ok-right.ensures c.has_sides.ensures

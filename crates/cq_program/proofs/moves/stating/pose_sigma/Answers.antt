use Rattle.std.proofs.Common.{sym}
use Rattle.cq_environment.specs.Meanings.{InstanceMeant, MappingMeant}
use Rattle.cq_environment.specs.Environment.{environment_of, instance_meant, mapping_meant}
use Rattle.cq_program.proofs.Settled.{instance_settled, mapping_settled, one_printed}
use Rattle.cq_program.proofs.moves.stating.pose_sigma.Goals as goal

pub returns-clause-well_sorted : goal.returns-clause-well_sorted
returns-clause-well_sorted c =
    let env = environment_of c.args.env.now.names.entries in
    let F : MappingMeant = mapping_meant c.in_ok-named.named in
    let instance : InstanceMeant = instance_meant c.in_ok-moved.moved in
    let settled = mapping_settled env c.args.along.now F c.requires.settled c.in_ok-named.ensures in
    let printed = instance_settled env c.args.used.now instance c.requires.settled c.in_ok-moved.ensures in
    sym (one_printed env F.source instance.schema F.mapping.source instance.instance.schema settled.1 printed c.if-ne.ensures)

pub returns-clause-grounded : goal.returns-clause-grounded
returns-clause-grounded c = λ name.
    let env = environment_of c.args.env.now.names.entries in
    let F : MappingMeant = mapping_meant c.in_ok-named.named in
    let settled = mapping_settled env c.args.along.now F c.requires.settled c.in_ok-named.ensures in
    settled.2

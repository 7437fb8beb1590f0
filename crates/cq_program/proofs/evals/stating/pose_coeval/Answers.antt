use Rattle.std.proofs.Common.{sym}
use Rattle.cq_environment.specs.Meanings.{InstanceMeant, QueryMeant}
use Rattle.cq_environment.specs.Environment.{environment_of, instance_meant, query_meant}
use Rattle.cq_program.proofs.Settled.{instance_settled, query_settled, one_printed}
use Rattle.cq_program.proofs.evals.stating.pose_coeval.Goals as goal

pub returns-clause-well_sorted : goal.returns-clause-well_sorted
returns-clause-well_sorted c =
    let env = environment_of c.args.env.now.names.entries in
    let Q : QueryMeant = query_meant c.in_ok-named.named in
    let instance : InstanceMeant = instance_meant c.in_ok-moved.moved in
    let settled = query_settled env c.args.along.now Q c.requires.settled c.in_ok-named.ensures in
    let printed = instance_settled env c.args.used.now instance c.requires.settled c.in_ok-moved.ensures in
    sym (one_printed env Q.target instance.schema Q.query.target instance.instance.schema settled.2 printed c.if-ne.ensures)

pub returns-clause-grounded : goal.returns-clause-grounded
returns-clause-grounded c = λ name.
    let env = environment_of c.args.env.now.names.entries in
    let Q : QueryMeant = query_meant c.in_ok-named.named in
    let settled = query_settled env c.args.along.now Q c.requires.settled c.in_ok-named.ensures in
    settled.1

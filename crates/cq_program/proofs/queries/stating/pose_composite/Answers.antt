use Rattle.std.proofs.Common.{sym}
use Rattle.cq_environment.specs.Meanings.{QueryMeant}
use Rattle.cq_environment.specs.Environment.{environment_of, query_meant}
use Rattle.cq_program.proofs.Settled.{query_settled, one_printed}
use Rattle.cq_program.proofs.queries.stating.pose_composite.Goals as goal

pub returns-clause-well_sorted : goal.returns-clause-well_sorted
returns-clause-well_sorted c =
    let env = environment_of c.args.env.now.names.entries in
    let Q : QueryMeant = query_meant c.in_ok-before.before in
    let W : QueryMeant = query_meant c.in_ok-after.after in
    let from = query_settled env c.args.first.now Q c.requires.settled c.in_ok-before.ensures in
    let to = query_settled env c.args.second.now W c.requires.settled c.in_ok-after.ensures in
    (from.0, to.0, sym (one_printed env Q.target W.source Q.query.target W.query.source from.2 to.1 c.if-ne.ensures))

pub returns-clause-grounded : goal.returns-clause-grounded
returns-clause-grounded c = λ name.
    let env = environment_of c.args.env.now.names.entries in
    let Q : QueryMeant = query_meant c.in_ok-before.before in
    let W : QueryMeant = query_meant c.in_ok-after.after in
    let from = query_settled env c.args.first.now Q c.requires.settled c.in_ok-before.ensures in
    let to = query_settled env c.args.second.now W c.requires.settled c.in_ok-after.ensures in
    (from.1, to.2)

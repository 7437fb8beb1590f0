use Rattle.cq_environment.specs.Meanings.{MappingMeant}
use Rattle.cq_environment.specs.Environment.{environment_of, mapping_meant}
use Rattle.cq_program.proofs.Settled.{mapping_settled}
use Rattle.cq_program.proofs.queries.stating.pose_mapping_query.Goals as goal

pub returns-clause-well_sorted : goal.returns-clause-well_sorted
returns-clause-well_sorted c =
    let env = environment_of c.args.env.now.names.entries in
    let F : MappingMeant = mapping_meant c.in_ok-named.named in
    let settled = mapping_settled env c.args.used.now F c.requires.settled c.in_ok-named.ensures in
    settled.0

pub returns-clause-grounded : goal.returns-clause-grounded
returns-clause-grounded c = λ name.
    let env = environment_of c.args.env.now.names.entries in
    let F : MappingMeant = mapping_meant c.in_ok-named.named in
    let settled = mapping_settled env c.args.used.now F c.requires.settled c.in_ok-named.ensures in
    (settled.2, settled.1)

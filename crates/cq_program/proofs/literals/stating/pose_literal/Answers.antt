use Rattle.cq_environment.specs.Environment.{environment_of, schema_meant}
use Rattle.cq_program.proofs.Settled.{schema_printed}
use Rattle.cq_program.proofs.literals.stating.pose_literal.Goals as goal

pub returns-clause-grounded : goal.returns-clause-grounded
returns-clause-grounded c = λ name.
    schema_printed (environment_of c.args.env.now.names.entries) c.args.literal.now.schema (schema_meant c.in_ok-over.over) c.requires.settled c.in_ok-over.ensures

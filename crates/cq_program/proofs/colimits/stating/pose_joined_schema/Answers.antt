use Rattle.cq_environment.specs.Environment.{colimit_meant, environment_of, schema_meant}
use Rattle.cq_program.proofs.ColimitsPosed.{schema_grounded}
use Rattle.cq_program.proofs.colimits.stating.pose_joined_schema.Goals as goal

pub returns-in_ok-copy_named-in-Ok-clause-grounded :
    goal.returns-in_ok-copy_named-in-Ok-clause-grounded
returns-in_ok-copy_named-in-Ok-clause-grounded c = λ name.
    schema_grounded (environment_of c.args.env.now.names.entries) c.args.used.now name (colimit_meant c.in-Ok.found.now) (schema_meant c.in_ok-copy_named-in-Ok.field-0) c.requires.settled
    c.in-Ok.ensures c.in_ok-copy_named-in-Ok.ensures

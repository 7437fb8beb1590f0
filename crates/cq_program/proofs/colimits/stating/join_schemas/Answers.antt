use Rattle.cq_environment.specs.Environment.{colimit_meant}
use Rattle.cq_program.specs.Views.{useds_meant}
use Rattle.cq_program.proofs.ColimitsPosed.{colimit_grounded, colimit_made}
use Rattle.cq_program.proofs.colimits.stating.join_schemas.Goals as goal

pub returns-in_ok-name_colimit-in-Ok-clause-posed :
    goal.returns-in_ok-name_colimit-in-Ok-clause-posed
returns-in_ok-name_colimit-in-Ok-clause-posed c =
    colimit_made c.args.literal.now c.args.name.now c.args.typeside.value (useds_meant c.args.parts.now) c.in-Ok.made.schema.value c.in-Ok.made.inclusions
    (colimit_meant c.in_ok-name_colimit-in-Ok.field-0) c.in-Ok.ensures.schema c.in-Ok.ensures.inclusions c.in_ok-name_colimit-in-Ok.ensures c.args.place c.in-Ok.ensures.accepted

pub returns-in_ok-name_colimit-in-Ok-clause-grounded :
    goal.returns-in_ok-name_colimit-in-Ok-clause-grounded
returns-in_ok-name_colimit-in-Ok-clause-grounded c = λ env there printed.
    colimit_grounded c.args.literal.now c.args.name.now c.args.typeside.value (useds_meant c.args.parts.now) c.in-Ok.made.schema.value c.in-Ok.made.inclusions
    (colimit_meant c.in_ok-name_colimit-in-Ok.field-0) c.in-Ok.ensures.schema c.in-Ok.ensures.inclusions c.in_ok-name_colimit-in-Ok.ensures env there printed c.in-Ok.ensures.preserves

use Rattle.std.proofs.Common.{subst, sym}
use Rattle.cq_environment.specs.Environment.{IsPrinted, environment_of, schema_meant}
use Rattle.cq_program.proofs.Settled.{one_typeside, schema_printed, used_settled}
use Rattle.cq_program.proofs.mappings.stating.pose_mapping.Goals as goal

pub make_mapping-requires-clause-typeside : goal.make_mapping-requires-clause-typeside
make_mapping-requires-clause-typeside c =
    let source = schema_meant c.in_ok-source.source in
    let target = schema_meant c.in_ok-target.target in
    one_typeside (environment_of c.args.env.now.names.entries) source target
    (used_settled (environment_of c.args.env.now.names.entries) c.args.literal.now.source source c.requires.settled c.in_ok-source.ensures)
    (used_settled (environment_of c.args.env.now.names.entries) c.args.literal.now.target target c.requires.settled c.in_ok-target.ensures)
    c.if-ne.ensures

pub returns-in-Ok-clause-grounded : goal.returns-in-Ok-clause-grounded
returns-in-Ok-clause-grounded c = λ name.
    let env = environment_of c.args.env.now.names.entries in
    let source = schema_meant c.in_ok-source.source in
    let target = schema_meant c.in_ok-target.target in (
      subst (IsPrinted env source.name) (sym c.in-Ok.ensures.over.0) (schema_printed env c.args.literal.now.source source c.requires.settled c.in_ok-source.ensures),
      subst (IsPrinted env target.name) (sym c.in-Ok.ensures.over.1) (schema_printed env c.args.literal.now.target target c.requires.settled c.in_ok-target.ensures),
    )

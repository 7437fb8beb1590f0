use Rattle.std.proofs.Common.{sym, ◌∙◌}
use Rattle.cq_environment.specs.Environment.{environment_of, meant}
use Rattle.cq_environment.proofs.Entries.{bound_under}
use Rattle.cq_environment.proofs.making.make_under.Goals as goal

pub returns-in-Some : goal.returns-in-Some
returns-in-Some c =
    bound_under c.bound_of.result (environment_of c.args.env.now.names.entries) c.args.name.now (meant c.in-Some.meaning.now) c.moved.result c.in-Some.ensures c.moved.ensures
    (sym c.is_some.ensures ∙ c.if-is_some.false) c.bound_of.ensures

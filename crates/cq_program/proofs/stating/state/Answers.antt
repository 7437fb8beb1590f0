use Rattle.std.proofs.Common.{true, false, sym, ◌∙◌, subst}
use Rattle.cq_environment.specs.Meanings.{Checked}
use Rattle.cq_program.specs.Checks.{Stated}
use Rattle.cq_environment.specs.Environment.{Answers, environment_of}
use Rattle.cq_program.specs.Posing.{stated_as}
use Rattle.cq_program.proofs.Poses.{is_declared, name_taken, stated_on}
use Rattle.cq_program.proofs.stating.state.Goals as goal

pub returns-then-is_some-clause-stated : goal.returns-then-is_some-clause-stated
returns-then-is_some-clause-stated c =
    name_taken (environment_of c.args.env.now.names.entries) c.args.decl.now
    (is_declared _ c.find.result _ true c.find.ensures (sym c.is_some.ensures ∙ c.if-is_some.true))

pub returns-clause-stated : goal.returns-clause-stated
returns-clause-stated c =
    let on = stated_on (environment_of c.args.env.now.names.entries) c.args.decl.now
    (is_declared _ c.find.result _ false c.find.ensures (sym c.is_some.ensures ∙ c.if-is_some.false)) in
    subst (λ (check : Checked Stated). Answers stated_as c.state_body.result check) (sym on) c.state_body.ensures.stated

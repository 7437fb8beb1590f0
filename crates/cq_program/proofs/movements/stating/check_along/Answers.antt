use Rattle.std.proofs.Common.{sym, ◌∙◌}
use Rattle.std.proofs.lemmas.Result.{err_from_is_err_and}
use Rattle.cq_environment.specs.Meanings.{Ends, Environment, TransformMeant}
use Rattle.cq_environment.specs.Environment.{ends_meant, environment_of, transform_meant}
use Rattle.cq_program.specs.Views.{named_route_meant}
use Rattle.cq_program.proofs.Fitting.{along_ends, along_finish, along_ok, along_other, along_start, other_names, same_names}
use Rattle.cq_program.proofs.Known.{ends_are, is_moving_along}
use Rattle.cq_program.proofs.movements.stating.check_along.Goals as goal

pub returns-clause-checked : goal.returns-clause-checked
returns-clause-checked c =
    let env : Environment = environment_of c.args.env.now.names.entries in
    let h : TransformMeant = transform_meant c.in_ok-transform.transform in
    let e : Ends = ends_meant c.in_ok-ends.ends in
    along_ok env c.args.operation c.args.along.now c.args.moved.now c.args.source.now c.args.target.now (named_route_meant c.in_ok-named.named) e c.in_ok-named.ensures c.in_ok-ends.ensures
    h c.in_ok-transform.ensures (same_names _ c.if-ne.ensures) (sym c.is_declared.ensures ∙ c.if-not-is_declared.false) (sym c.is_declared-2.ensures ∙ c.if-not-is_declared-2.false)

pub returns-clause-moving : goal.returns-clause-moving
returns-clause-moving c =
    let env : Environment = environment_of c.args.env.now.names.entries in
    let h : TransformMeant = transform_meant c.in_ok-transform.transform in
    let e : Ends = ends_meant c.in_ok-ends.ends in
    is_moving_along env c.args.operation c.args.along.now c.args.moved.now c.args.source.now c.args.target.now (named_route_meant c.in_ok-named.named) e c.requires.settled c.in_ok-named.ensures
    c.in_ok-ends.ensures h c.in_ok-transform.ensures (sym c.is_declared.ensures ∙ c.if-not-is_declared.false) (sym c.is_declared-2.ensures ∙ c.if-not-is_declared-2.false)

pub returns-clause-ends : goal.returns-clause-ends
returns-clause-ends c =
    (ends_are (environment_of c.args.env.now.names.entries) c.args.source.now c.args.target.now (ends_meant c.in_ok-ends.ends) c.in_ok-ends.ensures).0

pub returns-in_err-ends-clause-checked : goal.returns-in_err-ends-clause-checked
returns-in_err-ends-clause-checked c =
    let env : Environment = environment_of c.args.env.now.names.entries in
    let p = err_from_is_err_and c.from_residual-in_err-ends.result c.from_residual-in_err-ends.ensures.1 in
    rw (p.1, p.2)
    (along_ends env c.args.operation c.args.along.now c.args.moved.now c.args.source.now c.args.target.now (named_route_meant c.in_ok-named.named) c.in_ok-named.ensures c.in_err-ends.field-0.0 c.in_err-ends.ensures
    (transform_meant c.in_ok-transform.transform) c.in_ok-transform.ensures)

pub returns-then-ne-clause-checked : goal.returns-then-ne-clause-checked
returns-then-ne-clause-checked c =
    let env : Environment = environment_of c.args.env.now.names.entries in
    along_other env c.args.operation c.args.along.now c.args.moved.now c.args.source.now c.args.target.now (named_route_meant c.in_ok-named.named) (ends_meant c.in_ok-ends.ends) c.in_ok-named.ensures c.in_ok-ends.ensures
    (transform_meant c.in_ok-transform.transform) c.in_ok-transform.ensures (other_names _ c.if-ne.ensures)

pub returns-then-not-is_declared-clause-checked : goal.returns-then-not-is_declared-clause-checked
returns-then-not-is_declared-clause-checked c =
    let env : Environment = environment_of c.args.env.now.names.entries in
    along_start env c.args.operation c.args.along.now c.args.moved.now c.args.source.now c.args.target.now (named_route_meant c.in_ok-named.named) (ends_meant c.in_ok-ends.ends) c.in_ok-named.ensures c.in_ok-ends.ensures
    (transform_meant c.in_ok-transform.transform) c.in_ok-transform.ensures (same_names _ c.if-ne.ensures) (sym c.is_declared.ensures ∙ c.if-not-is_declared.true)

pub returns-then-not-is_declared-2-clause-checked : goal.returns-then-not-is_declared-2-clause-checked
returns-then-not-is_declared-2-clause-checked c =
    let env : Environment = environment_of c.args.env.now.names.entries in
    along_finish env c.args.operation c.args.along.now c.args.moved.now c.args.source.now c.args.target.now (named_route_meant c.in_ok-named.named) (ends_meant c.in_ok-ends.ends) c.in_ok-named.ensures c.in_ok-ends.ensures
    (transform_meant c.in_ok-transform.transform) c.in_ok-transform.ensures (same_names _ c.if-ne.ensures) (sym c.is_declared.ensures ∙ c.if-not-is_declared.false)
    (sym c.is_declared-2.ensures ∙ c.if-not-is_declared-2.true)

use Rattle.std.proofs.lemmas.Result.{err_from_is_err_and}
use Rattle.cq_environment.specs.Meanings.{Ends, Environment, InstanceMeant}
use Rattle.cq_environment.specs.Environment.{ends_meant, environment_of, instance_meant}
use Rattle.cq_program.specs.Views.{named_route_meant}
use Rattle.cq_program.proofs.Fitting.{other_names, same_names, counit_elsewhere, counit_ends, counit_ok, counit_other, counit_refused}
use Rattle.cq_program.proofs.Known.{ends_are, is_counit}
use Rattle.cq_program.proofs.movements.stating.check_counit.Goals as goal

pub returns-clause-checked : goal.returns-clause-checked
returns-clause-checked c =
    let env : Environment = environment_of c.args.env.now.names.entries in
    let i : InstanceMeant = instance_meant c.in_ok-part.part in
    let e : Ends = ends_meant c.in_ok-ends.ends in
    counit_ok env c.args.operation c.args.along.now c.args.moved.now c.args.source.now c.args.target.now (named_route_meant c.in_ok-named.named) e c.in_ok-named.ensures c.in_ok-ends.ensures
    i c.in_ok-part.ensures c.in_ok-there.there.value (same_names _ c.if-ne.ensures) c.in_ok-there.ensures (same_names _ c.if-ne-2.ensures)

pub returns-clause-moving : goal.returns-clause-moving
returns-clause-moving c =
    let env : Environment = environment_of c.args.env.now.names.entries in
    let i : InstanceMeant = instance_meant c.in_ok-part.part in
    let e : Ends = ends_meant c.in_ok-ends.ends in
    is_counit env c.args.operation c.args.along.now c.args.moved.now c.args.source.now c.args.target.now (named_route_meant c.in_ok-named.named) e i c.in_ok-there.there.value c.requires.settled
    c.in_ok-named.ensures c.in_ok-ends.ensures c.in_ok-part.ensures c.requires.right (same_names _ c.if-ne-2.ensures) c.in_ok-there.ensures

pub returns-clause-ends : goal.returns-clause-ends
returns-clause-ends c =
    (ends_are (environment_of c.args.env.now.names.entries) c.args.source.now c.args.target.now (ends_meant c.in_ok-ends.ends) c.in_ok-ends.ensures).0

pub returns-in_err-ends-clause-checked : goal.returns-in_err-ends-clause-checked
returns-in_err-ends-clause-checked c =
    let env : Environment = environment_of c.args.env.now.names.entries in
    let p = err_from_is_err_and c.from_residual-in_err-ends.result c.from_residual-in_err-ends.ensures.1 in
    rw (p.1, p.2)
    (counit_ends env c.args.operation c.args.along.now c.args.moved.now c.args.source.now c.args.target.now (named_route_meant c.in_ok-named.named) c.in_ok-named.ensures c.in_err-ends.field-0.0 c.in_err-ends.ensures
    (instance_meant c.in_ok-part.part) c.in_ok-part.ensures)

pub returns-then-ne-clause-checked : goal.returns-then-ne-clause-checked
returns-then-ne-clause-checked c =
    let env : Environment = environment_of c.args.env.now.names.entries in
    counit_other env c.args.operation c.args.along.now c.args.moved.now c.args.source.now c.args.target.now (named_route_meant c.in_ok-named.named) (ends_meant c.in_ok-ends.ends) c.in_ok-named.ensures c.in_ok-ends.ensures
    (instance_meant c.in_ok-part.part) c.in_ok-part.ensures (other_names _ c.if-ne.ensures)

pub returns-then-ne-2-clause-checked : goal.returns-then-ne-2-clause-checked
returns-then-ne-2-clause-checked c =
    let env : Environment = environment_of c.args.env.now.names.entries in
    counit_elsewhere env c.args.operation c.args.along.now c.args.moved.now c.args.source.now c.args.target.now (named_route_meant c.in_ok-named.named) (ends_meant c.in_ok-ends.ends) c.in_ok-named.ensures c.in_ok-ends.ensures
    (instance_meant c.in_ok-part.part) c.in_ok-part.ensures c.in_ok-there.there.value (same_names _ c.if-ne.ensures) c.in_ok-there.ensures (other_names _ c.if-ne-2.ensures)

pub returns-in_err-there-clause-checked : goal.returns-in_err-there-clause-checked
returns-in_err-there-clause-checked c =
    let env : Environment = environment_of c.args.env.now.names.entries in
    let p = err_from_is_err_and c.from_residual-in_err-there.result c.from_residual-in_err-there.ensures.1 in
    rw (p.1, p.2)
    (counit_refused env c.args.operation c.args.along.now c.args.moved.now c.args.source.now c.args.target.now (named_route_meant c.in_ok-named.named) (ends_meant c.in_ok-ends.ends) c.in_ok-named.ensures c.in_ok-ends.ensures
    (instance_meant c.in_ok-part.part) c.in_ok-part.ensures c.in_err-there.field-0.0 (same_names _ c.if-ne.ensures) c.in_err-there.ensures)

use Rattle.std.proofs.Common.{◌≡◌, length, ap, arith, rules}
use Rattle.cq_check.proofs.QueryDuties.{duties_counted}
use Rattle.cq_check.proofs.queries.first_with_duties.Goals as goal

pub loop-entity-preserved : goal.loop-entity-preserved
loop-entity-preserved c =
    let none : length c.in_ok-duties.duties.items ≡ 0 = search (rules, c.is_empty.ensures, c.if-not-is_empty.false) in
    omega (arith, duties_counted c.args.query.now c.loop-entity.entity, c.loop-entity.invariant, ap length c.in_ok-duties.ensures, none)

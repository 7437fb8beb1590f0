use Rattle.std.proofs.Common.{◌≡◌, ◌∙◌, length, sym, ap, subst, arith}
use Rattle.cq_check.specs.Answers.{AreMetOf}
use Rattle.cq_check.proofs.QueryDuties.{all_met}
use Rattle.cq_query.specs.QueryData.{QueryData as Query}
use Rattle.cq_query.specs.Duties.{duties_below}
use Rattle.cq_check.proofs.queries.check_query.Goals as goal

pub returns-then-first-entity_count-clause-sound : goal.returns-then-first-entity_count-clause-sound
returns-then-first-entity_count-clause-sound c =
    let Q : Query = c.args.query.now in
    let last : c.in_ok-first.first ≡ length Q.target.entities = omega (arith, c.if-first-entity_count.true, c.entity_count.ensures) in
    let none : length (duties_below Q (length Q.target.entities)) ≡ 0 = ap (λ n. length (duties_below Q n)) (sym last) ∙ c.in_ok-first.ensures.none in
    all_met Q (λ i duty less at. absurd (omega (arith, less, none)))

pub returns-clause-sound : goal.returns-clause-sound
returns-clause-sound c =
    let Q : Query = c.args.query.now in
    let last : c.loop-entity.entity ≡ length Q.target.entities = omega (arith, c.loop-entity-test.false, c.loop-entity.auto.entity-end, c.entity_count-entity-end.ensures) in
    all_met Q (subst (AreMetOf Q) (c.loop-entity.invariant.0 ∙ ap (λ n. length (duties_below Q n)) last) c.loop-entity.invariant.1)

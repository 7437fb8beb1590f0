use Rattle.std.proofs.Common.{ℕ, Some, ◌≡◌, ◌∙◌, length, ap, sym, subst, arith}
use Rattle.std.specs.Prelude.{slice_get}
use Rattle.cq_check.specs.Answers.{IsWellSorted, IsDerived, IsTooDeep, IsTooWide, AreMetOf, frozen_over, duty_equation}
use Rattle.cq_check.specs.declared.refusal.CheckRefusal.TheVariants.{NotPreserved, Depth, TooManyRows}
use Rattle.cq_check.proofs.Lists.{item_at}
use Rattle.cq_check.proofs.Numbered.{one_more_met, first_unmet, first_too_deep, first_too_wide}
use Rattle.cq_check.proofs.QueryDuties.{duty_read, duties_counted, one_sort, same_refusal}
use Rattle.cq_query.specs.QueryData.{QueryData as Query}
use Rattle.cq_query.specs.Duties.{duties, all_duties}
use Rattle.cq_theory.specs.declared.presentation.Equation.{Equation}
use Rattle.cq_theory.specs.declared.presentation.Presentation.{Presentation}
use Rattle.cq_theory.specs.SchemaData.{SchemaData as Schema}
use Rattle.cq_check.proofs.queries.check_entity.Goals as goal

pub check_duty-answer-requires-clause-sorted : goal.check_duty-answer-requires-clause-sorted
check_duty-answer-requires-clause-sorted c =
    let Q : Query = c.args.query.now in
    let duty : Equation = c.duty-item.result in
    let at = item_at (duties Q c.args.entity) c.deref-duty-items.result.now c.loop-duty.duty-index duty (c.deref-duty-items.ensures.value ∙ c.in_ok-duties.ensures) c.loop-duty-test.true c.duty-item.is in
    subst (λ (x : Schema × Presentation). IsWellSorted x.0 x.1 duty) (λ i. (sym c.requires.prepared.schema i, sym c.in_ok-over.ensures.frozen i)) (one_sort Q c.is_well_sorted.ensures c.args.entity c.loop-duty.duty-index duty at)

pub returns-in-Err-clause-not_sound : goal.returns-in-Err-clause-not_sound
returns-in-Err-clause-not_sound c = λ n same.
    let Q : Query = c.args.query.now in
    let entity : ℕ = c.args.entity in
    let duty : Equation = c.duty-item.result in
    let number : ℕ = c.loop-duty.number in
    let found : slice_get (all_duties Q) number ≡ Some (entity, duty) =
    duty_read Q entity number c.loop-duty.duty-index c.deref-duty-items.result.now duty c.requires.entity c.loop-duty.invariant.0 (c.deref-duty-items.ensures.value ∙ c.in_ok-duties.ensures) c.loop-duty-test.true c.duty-item.is in
    let told = c.in-Err.ensures.not_derivable n (same_refusal c.in-Err.refusal (NotPreserved n) same) in
    first_unmet (ℕ × Equation) Q.source (frozen_over Q) (duty_equation Q) (all_duties Q) number (entity, duty) found c.loop-duty.invariant.1 n (told.0 ∙ c.in_ok-number.ensures.next)
    (subst (λ (x : Schema × Presentation). IsDerived x.0 x.1 duty → ⊥) (λ i. (c.requires.prepared.schema i, c.in_ok-over.ensures.frozen i)) told.1)

pub returns-in-Err-clause-deep : goal.returns-in-Err-clause-deep
returns-in-Err-clause-deep c = λ n same.
    let Q : Query = c.args.query.now in
    let entity : ℕ = c.args.entity in
    let duty : Equation = c.duty-item.result in
    let number : ℕ = c.loop-duty.number in
    let found : slice_get (all_duties Q) number ≡ Some (entity, duty) =
    duty_read Q entity number c.loop-duty.duty-index c.deref-duty-items.result.now duty c.requires.entity c.loop-duty.invariant.0 (c.deref-duty-items.ensures.value ∙ c.in_ok-duties.ensures) c.loop-duty-test.true c.duty-item.is in
    let told = c.in-Err.ensures.deep n (same_refusal c.in-Err.refusal (Depth n) same) in
    first_too_deep (ℕ × Equation) Q.source (frozen_over Q) (duty_equation Q) (all_duties Q) number (entity, duty) found c.loop-duty.invariant.1 n c.args.depth (told.0 ∙ c.in_ok-number.ensures.next)
    (subst (λ (x : Schema × Presentation). IsTooDeep x.0 x.1 duty c.args.depth) (λ i. (c.requires.prepared.schema i, c.in_ok-over.ensures.frozen i)) told.1)

pub returns-in-Err-clause-many : goal.returns-in-Err-clause-many
returns-in-Err-clause-many c = λ n same.
    let Q : Query = c.args.query.now in
    let entity : ℕ = c.args.entity in
    let duty : Equation = c.duty-item.result in
    let number : ℕ = c.loop-duty.number in
    let found : slice_get (all_duties Q) number ≡ Some (entity, duty) =
    duty_read Q entity number c.loop-duty.duty-index c.deref-duty-items.result.now duty c.requires.entity c.loop-duty.invariant.0 (c.deref-duty-items.ensures.value ∙ c.in_ok-duties.ensures) c.loop-duty-test.true c.duty-item.is in
    let told = c.in-Err.ensures.many n (same_refusal c.in-Err.refusal (TooManyRows n) same) in
    first_too_wide (ℕ × Equation) Q.source (frozen_over Q) (duty_equation Q) (all_duties Q) number (entity, duty) found c.loop-duty.invariant.1 n c.args.depth (told.0 ∙ c.in_ok-number.ensures.next)
    (subst (λ (x : Schema × Presentation). IsTooWide x.0 x.1 duty c.args.depth) (λ i. (c.requires.prepared.schema i, c.in_ok-over.ensures.frozen i)) told.1)

pub loop-duty-preserved : goal.loop-duty-preserved
loop-duty-preserved c =
    let Q : Query = c.args.query.now in
    let entity : ℕ = c.args.entity in
    let duty : Equation = c.duty-item.result in
    let number : ℕ = c.loop-duty.number in
    let found : slice_get (all_duties Q) number ≡ Some (entity, duty) =
    duty_read Q entity number c.loop-duty.duty-index c.deref-duty-items.result.now duty c.requires.entity c.loop-duty.invariant.0 (c.deref-duty-items.ensures.value ∙ c.in_ok-duties.ensures) c.loop-duty-test.true c.duty-item.is in
    let derived : IsDerived Q.source (frozen_over Q (entity, duty)) duty =
    subst (λ (x : Schema × Presentation). IsDerived x.0 x.1 duty) (λ i. (c.requires.prepared.schema i, c.in_ok-over.ensures.frozen i)) c.in_default.ensures.derived in (
      omega (arith, c.in_ok-number.ensures.next, c.loop-duty.invariant.0),
      subst (AreMetOf Q) (sym c.in_ok-number.ensures.next)
          (one_more_met (ℕ × Equation) Q.source (frozen_over Q) (duty_equation Q) (all_duties Q) number (entity, duty) found c.loop-duty.invariant.1 derived),
    )

pub returns-clause-number : goal.returns-clause-number
returns-clause-number c =
    omega (arith, c.loop-duty.invariant.0, duties_counted c.args.query.now c.args.entity, c.loop-duty-test.false, c.loop-duty.auto.duty-index-end, ap length (c.deref-duty-items.ensures.value ∙ c.in_ok-duties.ensures))

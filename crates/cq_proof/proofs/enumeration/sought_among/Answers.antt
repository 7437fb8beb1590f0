use Rattle.std.proofs.Common.{arith, ap, sym, ◌∙◌, subst, ◌≡◌, ◌+◌, length}
use Rattle.cq_proof.specs.Answers.{Proves}
use Rattle.cq_proof.specs.Counting.{behind}
use Rattle.cq_proof.specs.Drafts.{spelled}
use Rattle.cq_proof.proofs.Passing.{ArePassed, first_passed, failed_at, next_passed, all_passed, written}
use Rattle.cq_proof.proofs.enumeration.sought_among.Goals as goal

pub loop-digits-init : goal.loop-digits-init
loop-digits-init c = first_passed c.args.schema.now c.args.presentation.now c.args.equation.now c.args.count c.in_ok-digits.digits.items c.in_ok-digits.ensures

pub returns-then-not-next-clause-none : goal.returns-then-not-next-clause-none
returns-then-not-next-clause-none c =
    let S = c.args.schema.now in
    let P = c.args.presentation.now in
    let e = c.args.equation.now in
    let items = c.loop-digits.digits.items in
    let failed : Proves S P (spelled items) e → ⊥ = failed_at S P e c.args.count c.in_ok-steps.field-0 c.as_slice.result.now items c.in-None.is c.in_ok-steps.ensures.none c.as_slice.ensures.value in
    all_passed S P e c.args.count items c.loop-digits.invariant failed (ap behind (sym c.as_mut_slice.ensures.value) ∙ c.next.ensures.last c.if-not-next.true)

pub loop-digits-preserved : goal.loop-digits-preserved
loop-digits-preserved c =
    let S = c.args.schema.now in
    let P = c.args.presentation.now in
    let e = c.args.equation.now in
    let items = c.loop-digits.digits.items in
    let new = c.next.new.digits in
    let failed : Proves S P (spelled items) e → ⊥ = failed_at S P e c.args.count c.in_ok-steps.field-0 c.as_slice.result.now items c.in-None.is c.in_ok-steps.ensures.none c.as_slice.ensures.value in
    let slice : length c.as_mut_slice.result.now ≡ length items = ap length c.as_mut_slice.ensures.value in
    let same : length new ≡ length items = omega (arith, slice) in
    let whole : c.loop-digits.digits.len ≡ length items = omega arith in
    let one : behind items ≡ behind new + 1 = ap behind (sym c.as_mut_slice.ensures.value) ∙ c.next.ensures.next c.if-not-next.false in
    let passed : ArePassed S P e c.args.count new = next_passed S P e c.args.count items new c.loop-digits.invariant failed same c.next.ensures.numbers one in
    subst (ArePassed S P e c.args.count) (sym (written c.loop-digits.digits.len new items same whole)) passed

use Rattle.std.proofs.Common.{ℕ, List, Some, Err, ◌≡◌, ◌<◌, Bool, Bor, true, false, map, length, ap, subst, arith}
use Rattle.std.specs.Prelude.{slice_get}
use Rattle.cq_check.proofs.Depths.{all_derived, not_derivable, one_stage_more, too_deep, too_wide}
use Rattle.cq_theory.specs.declared.presentation.Equation.{Equation}
use Rattle.cq_check.proofs.deciding.first_unmet.Goals as goal

pub returns-in_default : goal.returns-in_default
returns-in_default c =
    let es : List Equation = map (λ (e : Bor Equation). e.now) c.args.equations.now in
    all_derived c.args.prepared.now.schema.now c.args.presentation.now es c.loop-stage.stage c.in-Ok.answers.items c.in-Ok.closed c.in-Ok.ensures.decided
    (subst (λ (l : List Bool). (n : ℕ) → n < length l → slice_get l n ≡ Some true) c.deref-in-Ok.ensures.value c.in_default.ensures)

pub returns-then-closed : goal.returns-then-closed
returns-then-closed c =
    let es : List Equation = map (λ (e : Bor Equation). e.now) c.args.equations.now in
    let there : (slice_get c.in-Ok.answers.items c.in-Some.place ≡ Some false) × ((n : ℕ) → n < c.in-Some.place → slice_get c.in-Ok.answers.items n ≡ Some true) =
    subst (λ (l : List Bool). (slice_get l c.in-Some.place ≡ Some false) × ((n : ℕ) → n < c.in-Some.place → slice_get l n ≡ Some true)) c.deref-in-Ok.ensures.value c.in-Some.ensures in
    not_derivable c.args.prepared.now.schema.now c.args.presentation.now es c.loop-stage.stage c.in-Ok.answers.items c.in-Ok.closed c.in-Ok.ensures.decided
    c.in-Some.place there.0 there.1 c.args.depth c.if-closed.true

pub returns-in-Err-TooManyRows : goal.returns-in-Err-TooManyRows
returns-in-Err-TooManyRows c =
    let es : List Equation = map (λ (e : Bor Equation). e.now) c.args.equations.now in
    too_wide c.args.prepared.now.schema.now c.args.presentation.now es c.loop-stage.known.items c.loop-stage.first c.loop-stage.stage c.args.depth c.loop-stage.invariant (omega (arith, c.loop-stage-test.true))
    (c.in-Err-TooManyRows.ensures.many (ap Err c.in-Err-TooManyRows.field-0-is))

pub loop-stage-preserved : goal.loop-stage-preserved
loop-stage-preserved c =
    let es : List Equation = map (λ (e : Bor Equation). e.now) c.args.equations.now in
    let there : (slice_get c.in-Ok.answers.items c.in-Some.place ≡ Some false) × ((n : ℕ) → n < c.in-Some.place → slice_get c.in-Ok.answers.items n ≡ Some true) =
    subst (λ (l : List Bool). (slice_get l c.in-Some.place ≡ Some false) × ((n : ℕ) → n < c.in-Some.place → slice_get l n ≡ Some true)) c.deref-in-Ok.ensures.value c.in-Some.ensures in
    one_stage_more c.args.prepared.now.schema.now c.args.presentation.now es c.loop-stage.stage c.in-Ok.answers.items c.in-Ok.closed c.in-Ok.ensures.decided
    c.in-Some.place there.0 there.1 c.if-closed.false

pub returns : goal.returns
returns c =
    let es : List Equation = map (λ (e : Bor Equation). e.now) c.args.equations.now in
    too_deep c.args.prepared.now.schema.now c.args.presentation.now es c.loop-stage.known.items c.loop-stage.first c.loop-stage.stage c.args.depth c.loop-stage.invariant (omega (arith, c.loop-stage-test.false))

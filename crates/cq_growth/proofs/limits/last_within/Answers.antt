use Rattle.std.proofs.Common.{◌≡◌, ◌+◌, ◌∙◌, Err, refl, sym, subst, ap, arith}
use Rattle.std.specs.Prelude.{IfOk}
use Rattle.cq_rows.specs.Saturated.{IsSaturated, SomeWide}
use Rattle.cq_rows.specs.declared.refusal.RowsRefusal.{RowsRefusal}
use Rattle.cq_growth.specs.Limits.{TellsGrowth}
use Rattle.cq_growth.proofs.Growing.{tells_passed, tells_kept}
use Rattle.cq_growth.proofs.limits.last_within.Goals as goal

pub loop-stage-init : goal.loop-stage-init
loop-stage-init c = refl

pub returns-in-Err-TooManyRows : goal.returns-in-Err-TooManyRows
returns-in-Err-TooManyRows c =
    let S = c.args.schema.now in
    let P = c.args.presentation.now in
    let stage = c.loop-stage.stage in
    let wide : SomeWide S P stage = c.saturate_over.ensures.many (c.in-Err-TooManyRows.is ∙ ap (λ (r : RowsRefusal). Err r) c.in-Err-TooManyRows.field-0-is) in
    subst (TellsGrowth S P c.args.depth) (sym c.passed.ensures) (tells_passed S P c.args.depth stage c.loop-stage.last c.loop-stage-test.true c.loop-stage.invariant wide)

pub returns-in-Err-Memory : goal.returns-in-Err-Memory
returns-in-Err-Memory c = c.behind.ensures c.loop-stage.stage c.loop-stage-test.true c.loop-stage.invariant

pub loop-stage-preserved : goal.loop-stage-preserved
loop-stage-preserved c =
    let S = c.args.schema.now in
    let P = c.args.presentation.now in
    let stage = c.loop-stage.stage in
    (refl, subst (λ r. IfOk r (IsSaturated S P stage)) c.in-Ok.is c.saturate_over.ensures.made)

pub returns : goal.returns
returns c =
    let end : c.loop-stage.stage ≡ c.args.depth + 1 = omega (arith, c.loop-stage-test.false, c.loop-stage.auto.stage-end) in
    tells_kept c.args.schema.now c.args.presentation.now c.args.depth c.loop-stage.stage c.loop-stage.last end c.loop-stage.invariant

use Rattle.std.proofs.Common.{◌≡◌, ◌<◌, ◌≤◌, Some, length, refl, arith}
use Rattle.std.specs.Prelude.{slice_get}
use Rattle.std.proofs.lemmas.Option.{slice_get_read}
use Rattle.cq_steps.proofs.Deciding.{decides_some, refuted, right_more, all_right}
use Rattle.cq_steps.proofs.check.check_steps.Goals as goal

pub returns-then-not-branch : goal.returns-then-not-branch
returns-then-not-branch c =
    let within : c.loop-n.n < length c.args.steps.now = omega arith in
    let at : slice_get c.args.steps.now c.loop-n.n ≡ Some c.index-steps-n.result = slice_get_read c.args.steps.now (length c.args.steps.now) c.loop-n.n c.index-steps-n.result refl within c.index-steps-n.is in
    refuted c.args.schema.now c.args.presentation.now c.args.steps.now c.loop-n.n c.index-steps-n.result c.in_ok-is_right.field-0 at c.in_ok-is_right.ensures c.if-not-branch.true

pub loop-n-preserved : goal.loop-n-preserved
loop-n-preserved c =
    let within : c.loop-n.n < length c.args.steps.now = omega arith in
    let at : slice_get c.args.steps.now c.loop-n.n ≡ Some c.index-steps-n.result = slice_get_read c.args.steps.now (length c.args.steps.now) c.loop-n.n c.index-steps-n.result refl within c.index-steps-n.is in
    right_more c.args.schema.now c.args.presentation.now c.args.steps.now c.loop-n.n c.index-steps-n.result c.in_ok-is_right.field-0 at c.in_ok-is_right.ensures c.if-not-branch.false c.loop-n.invariant

pub returns : goal.returns
returns c =
    let all : length c.args.steps.now ≤ c.loop-n.n = omega arith in
    all_right c.args.schema.now c.args.presentation.now c.args.steps.now c.loop-n.n _ all c.loop-n.invariant (decides_some (length c.args.steps.now) c.is_empty.result c.is_empty.ensures)

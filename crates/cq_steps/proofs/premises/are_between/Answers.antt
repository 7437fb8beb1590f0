use Rattle.cq_steps.proofs.Arguments.{between-lefts, between-rights}
use Rattle.cq_steps.proofs.Deciding.{decides_no}
use Rattle.cq_steps.proofs.premises.are_between.Goals as goal

pub returns-then-from-left : goal.returns-then-from-left
returns-then-from-left c = decides_no _ (λ h. c.if-from-left.true (between-lefts c.args.earlier.now c.args.from.now c.args.left.now c.args.right.now h))

pub returns-then-from-right : goal.returns-then-from-right
returns-then-from-right c = decides_no _ (λ h. c.if-from-right.true (between-rights c.args.earlier.now c.args.from.now c.args.left.now c.args.right.now h))

-- The refusal of a duty.
use Rattle.std.specs.Prelude.{ℕ}
use Rattle.cq_check.specs.declared.deciding.Cause.{Cause}
use Rattle.cq_check.specs.declared.refusal.CheckRefusal.{CheckRefusal}
use Rattle.cq_check.specs.declared.refusal.CheckRefusal.TheVariants.{NotPreserved, Depth, TooManyRows}
use Rattle.cq_check.specs.declared.deciding.Cause.TheVariants as because

abbrev pub refusal_of : Cause → ℕ → CheckRefusal
refusal_of because.NotDerivable number = NotPreserved number
refusal_of because.Depth number = Depth number
refusal_of because.TooManyRows number = TooManyRows number

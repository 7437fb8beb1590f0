use Rattle.cq_program.proofs.Breaches.{unbroken_within_limits}
use Rattle.cq_program.proofs.laws.unbroken_within_limits.Goals as goal

pub returns : goal.returns
returns c = unbroken_within_limits

use Rattle.cq_program.proofs.Breaches.{means_unbroken}
use Rattle.cq_program.proofs.laws.means_unbroken.Goals as goal

pub returns : goal.returns
returns c = means_unbroken

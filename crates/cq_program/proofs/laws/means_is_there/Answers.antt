use Rattle.cq_program.proofs.Breaches.{means_is_there}
use Rattle.cq_program.proofs.laws.means_is_there.Goals as goal

pub returns : goal.returns
returns c = means_is_there

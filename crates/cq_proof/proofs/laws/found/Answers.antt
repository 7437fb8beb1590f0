use Rattle.cq_proof.proofs.Writing.{found_for}
use Rattle.cq_proof.proofs.laws.found.Goals as goal

pub returns : goal.returns
returns c S P e steps written proved = found_for S P e steps written proved

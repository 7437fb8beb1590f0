use Rattle.cq_proof.proofs.Writing.{spelling}
use Rattle.cq_proof.proofs.laws.spellable.Goals as goal

pub returns : goal.returns
returns c steps written = spelling steps written

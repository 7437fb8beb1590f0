use Rattle.cq_program.proofs.Breaches.{one_refusal}
use Rattle.cq_program.proofs.laws.one_refusal.Goals as goal

pub returns : goal.returns
returns c = one_refusal

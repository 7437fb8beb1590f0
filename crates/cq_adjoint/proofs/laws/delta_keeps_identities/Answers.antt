use Rattle.cq_adjoint.proofs.DeltaIdentities.{delta_of_identity}
use Rattle.cq_adjoint.proofs.laws.delta_keeps_identities.Goals as goal

pub returns : goal.returns
returns c = λ F i a is first start pulled holds. delta_of_identity F i a is first start pulled holds

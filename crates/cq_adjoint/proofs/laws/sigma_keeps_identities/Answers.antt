use Rattle.cq_adjoint.proofs.IdentityMoves.{sigma_of_identity}
use Rattle.cq_adjoint.proofs.laws.sigma_keeps_identities.Goals as goal

pub returns : goal.returns
returns c = λ F G. sigma_of_identity F G

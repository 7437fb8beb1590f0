use Rattle.cq_theory.proofs.Identities.{identity_is_homomorphism}
use Rattle.cq_theory.proofs.laws.homomorphisms.identity.Goals as goal

pub returns : goal.returns
returns c = identity_is_homomorphism

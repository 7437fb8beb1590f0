use Rattle.cq_adjoint.proofs.IdentityMoves.{unit_of_identity, counit_of_identity}
use Rattle.cq_adjoint.proofs.laws.units_of_identities.Goals as goal

pub returns : goal.returns
returns c = record {
  unit = λ F i x b pushed. unit_of_identity F i x b pushed;
  counit = λ F null_term i x holds. counit_of_identity F null_term i x holds;
}

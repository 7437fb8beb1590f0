use Rattle.cq_mapping.proofs.Identical.{identity_preserves}
use Rattle.cq_mapping.proofs.laws.identity_preserves.Goals as goal

pub returns : goal.returns
returns c = identity_preserves

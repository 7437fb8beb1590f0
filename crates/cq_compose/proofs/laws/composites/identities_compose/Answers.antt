use Rattle.cq_compose.proofs.IdentityQueries.{identity_first, identity_second}
use Rattle.cq_compose.proofs.laws.composites.identities_compose.Goals as goal

pub returns : goal.returns
returns c = record { before = identity_first; after = identity_second }

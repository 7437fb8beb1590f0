use Rattle.cq_query.proofs.CopiedPresentations.{coeval_is}
use Rattle.cq_query.proofs.laws.coeval_presented.Goals as goal

pub returns : goal.returns
returns c = coeval_is

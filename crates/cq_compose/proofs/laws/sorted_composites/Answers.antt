use Rattle.cq_compose.proofs.Composed.{composite_is_query}
use Rattle.cq_compose.proofs.laws.sorted_composites.Goals as goal

pub returns : goal.returns
returns c = composite_is_query

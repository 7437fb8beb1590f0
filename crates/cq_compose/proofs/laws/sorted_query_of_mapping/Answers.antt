use Rattle.cq_compose.proofs.Variable.{mapping_query_is}
use Rattle.cq_compose.proofs.laws.sorted_query_of_mapping.Goals as goal

pub returns : goal.returns
returns c = mapping_query_is

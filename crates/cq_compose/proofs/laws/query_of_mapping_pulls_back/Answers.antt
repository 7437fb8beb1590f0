use Rattle.cq_compose.proofs.Pulled.{pulled_back}
use Rattle.cq_compose.proofs.laws.query_of_mapping_pulls_back.Goals as goal

pub returns : goal.returns
returns c = pulled_back

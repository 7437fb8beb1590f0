use Rattle.cq_compose.proofs.Respected.{respected}
use Rattle.cq_compose.proofs.laws.query_of_mapping_is_sound.Goals as goal

pub returns : goal.returns
returns c = respected

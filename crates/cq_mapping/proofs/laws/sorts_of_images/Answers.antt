use Rattle.cq_mapping.proofs.Imaged.{sort_of-image}
use Rattle.cq_mapping.proofs.laws.sorts_of_images.Goals as goal

pub returns : goal.returns
returns c = λ F is G. sort_of-image F is G

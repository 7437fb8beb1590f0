use Rattle.cq_mapping.proofs.Preserved.{Derives-image}
use Rattle.cq_mapping.proofs.laws.images_of_derived.Goals as goal

pub returns : goal.returns
returns c = Derives-image

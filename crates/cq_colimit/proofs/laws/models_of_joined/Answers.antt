use Rattle.cq_colimit.proofs.ByParts.{satisfies_by_parts}
use Rattle.cq_colimit.proofs.laws.models_of_joined.Goals as goal

pub returns : goal.returns
returns c = satisfies_by_parts

use Rattle.cq_colimit.proofs.Least.{classes_are}
use Rattle.cq_colimit.proofs.laws.classes_are_least.Goals as goal

pub returns : goal.returns
returns c = classes_are

use Rattle.cq_proof.proofs.RightLists.{right_list}
use Rattle.cq_proof.proofs.laws.listed.Goals as goal

pub returns : goal.returns
returns c S P e derivable = right_list S P e derivable

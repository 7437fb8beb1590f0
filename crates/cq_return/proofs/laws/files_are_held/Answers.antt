use Rattle.cq_return.proofs.Own.{own_files}
use Rattle.cq_return.proofs.laws.files_are_held.Goals as goal

pub returns : goal.returns
returns c i name schema apart = own_files i name schema apart

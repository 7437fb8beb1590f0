use Rattle.cq_values.proofs.Exactness.{one_value}
use Rattle.cq_values.proofs.laws.one_value.Goals as goal

pub returns : goal.returns
returns c = one_value

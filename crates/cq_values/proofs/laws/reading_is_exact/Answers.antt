use Rattle.cq_values.proofs.Exactness.{exact}
use Rattle.cq_values.proofs.laws.reading_is_exact.Goals as goal

pub returns : goal.returns
returns c = exact

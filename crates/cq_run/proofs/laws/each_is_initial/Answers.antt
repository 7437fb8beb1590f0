use Rattle.cq_run.specs.Meaning.{Means}
use Rattle.cq_run.proofs.laws.each_is_initial.Goals as goal

pub returns : goal.returns
unfolding Means
returns c = λ told text L means. means.3

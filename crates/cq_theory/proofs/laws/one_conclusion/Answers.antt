use Rattle.cq_theory.proofs.Conclusions.{one_equation}
use Rattle.cq_theory.proofs.laws.one_conclusion.Goals as goal

pub returns : goal.returns
returns c = one_equation

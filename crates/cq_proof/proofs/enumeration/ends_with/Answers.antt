use Rattle.cq_proof.proofs.Ends.{ends_some, ends_none}
use Rattle.cq_proof.proofs.enumeration.ends_with.Goals as goal

pub returns-in-Some : goal.returns-in-Some
returns-in-Some c = ends_some c.args.steps.now c.in-Some.step.now c.args.equation.now c.is_same.result c.in-Some.ensures.value c.is_same.ensures

pub returns-in-None : goal.returns-in-None
returns-in-None c = ends_none c.args.steps.now c.args.equation.now c.in-None.ensures.value

use Rattle.cq_proof.proofs.Explaining.{different}
use Rattle.cq_proof.proofs.answer.explain.Goals as goal

pub returns-then-not-branch : goal.returns-then-not-branch
returns-then-not-branch c = different c.args.instance.now c.args.equation.now c.in_ok-are_one.field-0 c.requires.initial c.requires.equation c.in_ok-are_one.ensures c.if-not-branch.true

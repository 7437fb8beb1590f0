use Rattle.cq_instance.proofs.SameValues.{same_is}
use Rattle.cq_instance.proofs.values.equals.Goals as goal

pub returns : goal.returns
returns c = same_is c.is_same_value.result c.args.left.now c.args.right.now c.is_same_value.ensures

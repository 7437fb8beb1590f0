use Rattle.std.proofs.Common.{length, refl, arith}
use Rattle.cq_flat.proofs.Starting.{closing_start}
use Rattle.cq_flat.proofs.closing.Closing.start.Goals as goal

pub returns : goal.returns
returns c = closing_start c.args.nodes.now c.args.equations.items (length c.args.nodes.now) c.in_ok-closing.closing c.in_ok-closing.ensures (omega arith) _ refl refl refl refl c.in_ok-closing-2.ensures c.in_ok-add_functions.ensures

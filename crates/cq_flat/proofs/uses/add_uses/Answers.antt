use Rattle.std.proofs.Common.{arith}
use Rattle.cq_flat.proofs.Using.{adds_none, adds_more}
use Rattle.cq_flat.proofs.uses.add_uses.Goals as goal

pub loop-arg-init : goal.loop-arg-init
loop-arg-init c = adds_none c.args.uses.now c.args.node

pub loop-arg-preserved : goal.loop-arg-preserved
loop-arg-preserved c =
    adds_more c.args.uses.now c.loop-arg.uses c.push.new.self c.args.node c.args.args.now c.loop-arg.arg-index (omega arith) c.in_ok-push.ensures c.loop-arg.invariant

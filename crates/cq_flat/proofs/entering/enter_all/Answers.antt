use Rattle.std.proofs.Common.{arith}
use Rattle.cq_flat.proofs.Members.{has_at}
use Rattle.cq_flat.proofs.Entered.{enters_more}
use Rattle.cq_flat.proofs.entering.enter_all.Goals as goal

pub enter-requires-clause-node : goal.enter-requires-clause-node
enter-requires-clause-node c = c.requires.entered _ (has_at c.args.entered.now c.loop-node.node-index (omega arith))

pub loop-node-preserved : goal.loop-node-preserved
loop-node-preserved c =
    enters_more c.args.nodes.now _ c.args.table.now c.loop-node.table c.enter.new.table c.args.pending.now.items c.loop-node.pending.items c.enter.new.pending.items c.args.entered.now c.loop-node.node-index (omega arith)
    c.loop-node.invariant c.in_ok-enter.ensures

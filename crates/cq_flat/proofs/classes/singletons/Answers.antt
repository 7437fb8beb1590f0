use Rattle.std.proofs.Common.{arith}
use Rattle.std.proofs.lemmas.Grind.{common_steps}
use Rattle.cq_flat.proofs.Rings.{range_more, rings_alone}
use Rattle.cq_flat.proofs.classes.singletons.Goals as goal

pub loop-node-preserved : goal.loop-node-preserved
loop-node-preserved c = record { classes = grind (arith, common_steps, range_more); following = grind (arith, common_steps, range_more) }

pub returns-clause-rings : goal.returns-clause-rings
returns-clause-rings c = rw (c.loop-node.invariant.classes, c.loop-node.invariant.following) (rings_alone c.loop-node.node)

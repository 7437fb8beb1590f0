use Rattle.cq_theory.specs.Canonical.{below}
use Rattle.cq_theory.proofs.PartLoops.{map_whole}
use Rattle.cq_transform.proofs.identities.own_rows.Goals as goal

pub returns : goal.returns
returns c = map_whole below c.args.counts.now c.loop-count.count-index c.loop-count.rows.items c.loop-count-test.false c.loop-count.invariant

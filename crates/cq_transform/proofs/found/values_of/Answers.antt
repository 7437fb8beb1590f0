use Rattle.cq_theory.proofs.PartLoops.{map_whole}
use Rattle.cq_transform.specs.Nulls.{value_or_first}
use Rattle.cq_transform.proofs.found.values_of.Goals as goal

pub returns : goal.returns
returns c = map_whole value_or_first c.args.found.now c.loop-value.value-index c.loop-value.values.items c.loop-value-test.false c.loop-value.invariant

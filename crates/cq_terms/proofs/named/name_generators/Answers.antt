use Rattle.std.proofs.Common.{arith}
use Rattle.cq_terms.proofs.Naming.{named_more}
use Rattle.cq_terms.proofs.named.name_generators.Goals as goal

pub loop-sort-preserved : goal.loop-sort-preserved
loop-sort-preserved c = (
  omega (arith, c.loop-sort.invariant.0),
  named_more c.args.sorts.now c.loop-sort.sort-index c.loop-sort.number _ c.loop-sort.made.items _ c.loop-sort-test.true c.loop-sort.invariant.0 c.loop-sort.invariant.1 c.in_ok-push_generator.ensures,
)

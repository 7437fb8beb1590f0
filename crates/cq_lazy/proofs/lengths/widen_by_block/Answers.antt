use Rattle.cq_lazy.proofs.Widening.{block_covered}
use Rattle.cq_lazy.proofs.lengths.widen_by_block.Goals as goal

pub returns : goal.returns
returns c =
    block_covered c.args.under.now c.args.found c.in_ok-by_tests.by_tests c.in_ok-by_attributes.by_attributes c.args.block.now c.as_slice.result.now c.as_slice-2.result.now c.as_slice-3.result.now
    c.as_slice.ensures c.as_slice-2.ensures c.as_slice-3.ensures c.in_ok-by_tests.ensures c.in_ok-by_attributes.ensures c.widen_by_keys.result c.widen_by_keys.ensures

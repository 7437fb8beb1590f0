use Rattle.cq_parts.specs.Parts.{block_clauses}
use Rattle.cq_parts.proofs.QueryCounts.{numbered_more}
use Rattle.cq_parts.proofs.blocks.clauses_in.Goals as goal

pub loop-number-preserved : goal.loop-number-preserved
loop-number-preserved c =
    numbered_more block_clauses c.args.blocks.now c.loop-number.number c.index-blocks-number.result c.loop-number.parts.items c.push_clauses.new.parts.items c.loop-number-test.true c.index-blocks-number.is
    c.loop-number.invariant c.in_ok-push_clauses.ensures

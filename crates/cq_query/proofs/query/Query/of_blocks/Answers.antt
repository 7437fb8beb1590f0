use Rattle.cq_query.proofs.NewQueries.{beginnings_at}
use Rattle.cq_query.proofs.query.Query.of_blocks.Goals as goal

pub invariant_of-result : goal.invariant_of-result
invariant_of-result c = (c.requires, beginnings_at c.args.target.value c.deref.result.now c.in_ok-beginnings.beginnings c.deref.ensures c.in_ok-beginnings.ensures)

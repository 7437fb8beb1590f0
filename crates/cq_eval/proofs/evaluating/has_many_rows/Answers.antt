use Rattle.cq_eval.proofs.Filled.{many_rows}
use Rattle.cq_eval.proofs.evaluating.has_many_rows.Goals as goal

pub returns-then-count-room : goal.returns-then-count-room
returns-then-count-room c =
    many_rows c.args.answers.now c.loop-found.found-index c.loop-found.room c.args.nulls c.len-count.result c.found-item.result c.loop-found-test.true c.found-item.is c.len-count.ensures c.loop-found.invariant c.if-count-room.true

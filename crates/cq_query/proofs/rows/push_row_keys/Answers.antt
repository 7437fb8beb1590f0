use Rattle.cq_query.specs.Coeval.{key_equations}
use Rattle.cq_query.proofs.Lists.{pushed_more}
use Rattle.cq_query.proofs.rows.push_row_keys.Goals as goal

pub loop-key-preserved : goal.loop-key-preserved
loop-key-preserved c =
    pushed_more (key_equations c.args.layout.now.query.now c.args.layout.now.sheet.now c.args.row.now.entity c.args.row.now.number) c.args.made.now.items c.loop-key.made.items _ c.keys_from-key-items.result.now _ c.loop-key.key-index 0
    c.keys_from-key-items.ensures c.loop-key-test.true c.loop-key.invariant c.in_ok-push_key_equations.ensures

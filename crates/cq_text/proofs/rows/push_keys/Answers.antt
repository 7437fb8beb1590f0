use Rattle.cq_theory.specs.Tables.{count_of}
use Rattle.cq_text.proofs.Numbers.{row_of_source}
use Rattle.cq_text.proofs.rows.push_keys.Goals as goal

pub push_key-requires-clause-key : goal.push_key-requires-clause-key
push_key-requires-clause-key c =
    (row_of_source c.args.entity c.args.row c.args.instance.now.schema.keys (count_of c.args.instance.now.tables) c.args.keys.now c.loop-key.key-index
    c.requires.keys c.requires.row c.loop-key-test.true).0

pub push_key-requires-clause-row : goal.push_key-requires-clause-row
push_key-requires-clause-row c =
    (row_of_source c.args.entity c.args.row c.args.instance.now.schema.keys (count_of c.args.instance.now.tables) c.args.keys.now c.loop-key.key-index
    c.requires.keys c.requires.row c.loop-key-test.true).1

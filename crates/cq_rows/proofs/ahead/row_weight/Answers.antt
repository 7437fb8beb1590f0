use Rattle.cq_rows.proofs.Cells.{live_made}
use Rattle.cq_rows.proofs.Filling.{at_key, Extends-same}
use Rattle.cq_rows.proofs.ahead.row_weight.Goals as goal

pub entity-entity-requires : goal.entity-entity-requires
entity-entity-requires c = live_made c.args.tables.now c.args.row c.requires.whole c.requires.row

pub cell-requires-clause-key : goal.cell-requires-clause-key
cell-requires-clause-key c = (at_key c.args.tables.now c.args.tables.now c.args.row c.entity-entity.result c.args.keys.now c.keys_from-key-items.result.now c.keys_from-key-items.result.now c.loop-key.key-index c.requires.keys (Extends-same c.args.tables.now) c.requires.row c.entity-entity.ensures c.keys_from-key-items.ensures c.keys_from-key-items.ensures c.loop-key-test.true).goes

pub bounds-keys-key : goal.bounds-keys-key
bounds-keys-key c = (at_key c.args.tables.now c.args.tables.now c.args.row c.entity-entity.result c.args.keys.now c.keys_from-key-items.result.now c.keys_from-key-items.result.now c.loop-key.key-index c.requires.keys (Extends-same c.args.tables.now) c.requires.row c.entity-entity.ensures c.keys_from-key-items.ensures c.keys_from-key-items.ensures c.loop-key-test.true).below

use Rattle.std.proofs.Common.{length, refl, sym, ◌∙◌, ap, arith}
use Rattle.std.specs.Prelude.{is_some}
use Rattle.cq_rows.proofs.Filling.{listed_step, listed_key, filled_first, filled_next, filled_all, goes_to}
use Rattle.cq_growth.proofs.Nones.{none_is}
use Rattle.cq_growth.proofs.news.empty_key.Goals as goal

pub loop-key-init : goal.loop-key-init
loop-key-init c = filled_first c.args.tables.now c.args.row c.entity-entity.result c.entity-entity.ensures

pub cell-requires-clause-key : goal.cell-requires-clause-key
cell-requires-clause-key c =
    listed_step c.args.tables.now c.args.row c.entity-entity.result c.entity-entity.ensures c.keys_from-key-items.result.now c.loop-key.key-index _ 0 c.keys_from-key-items.ensures c.loop-key-test.true refl

pub loop-key-preserved : goal.loop-key-preserved
loop-key-preserved c =
    let key = listed_key c.args.tables.now c.args.row c.entity-entity.result c.entity-entity.ensures c.keys_from-key-items.result.now c.loop-key.key-index _ 0 c.keys_from-key-items.ensures c.loop-key-test.true refl in
    filled_next c.args.tables.now c.args.row c.entity-entity.result c.entity-entity.ensures c.loop-key.key-index _ (omega (arith, c.loop-key-test.true, ap length c.keys_from-key-items.ensures)) key
    (ap is_some (sym c.cell.ensures.value) ∙ c.if-is_none.ensures) c.loop-key.invariant

pub returns-then-is_none : goal.returns-then-is_none
returns-then-is_none c =
    let step = goes_to _ _ _ (listed_step c.args.tables.now c.args.row c.entity-entity.result c.entity-entity.ensures c.keys_from-key-items.result.now c.loop-key.key-index _ 0 c.keys_from-key-items.ensures c.loop-key-test.true refl) in
    record { entity = _; goes = step; empty = sym c.cell.ensures.value ∙ none_is c.cell.result c.if-is_none.ensures }

pub returns : goal.returns
returns c = filled_all c.args.tables.now c.args.row c.entity-entity.result c.entity-entity.ensures c.loop-key.key-index (omega (arith, c.loop-key-test.false, ap length c.keys_from-key-items.ensures)) c.loop-key.invariant

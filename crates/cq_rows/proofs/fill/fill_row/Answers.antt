use Rattle.std.proofs.Common.{◌≤◌, length, sym, ◌∙◌, ap, arith}
use Rattle.std.specs.Prelude.{is_some}
use Rattle.cq_tables.specs.Content.{keys_of}
use Rattle.cq_tables.specs.Places.{keys_from}
use Rattle.cq_rows.proofs.Cells.{live_made}
use Rattle.cq_rows.proofs.Filling.{at_key, row_first, row_passed, row_made, row_done, kind_kept, read_target, none_if}
use Rattle.cq_rows.proofs.fill.fill_row.Goals as goal

pub entity-entity-requires : goal.entity-entity-requires
entity-entity-requires c = live_made c.args.tables.now c.args.row c.requires.whole c.requires.row

pub loop-place-init : goal.loop-place-init
loop-place-init c = row_first c.args.tables.now c.args.row c.entity-entity.result c.entity-entity.ensures c.requires.whole

pub cell-requires-clause-key : goal.cell-requires-clause-key
cell-requires-clause-key c = (at_key c.args.tables.now c.loop-place.tables c.args.row c.entity-entity.result c.args.keys.now c.keys_from-place-end.result.now c.keys_from.result.now c.loop-place.place c.requires.keys c.loop-place.invariant.extends c.requires.row c.entity-entity.ensures c.keys_from-place-end.ensures c.keys_from.ensures c.loop-place-test.true).goes

pub loop-place-preserved-then-is_some : goal.loop-place-preserved-then-is_some
loop-place-preserved-then-is_some c =
    let key = at_key c.args.tables.now c.loop-place.tables c.args.row c.entity-entity.result c.args.keys.now c.keys_from-place-end.result.now c.keys_from.result.now c.loop-place.place c.requires.keys c.loop-place.invariant.extends c.requires.row c.entity-entity.ensures c.keys_from-place-end.ensures c.keys_from.ensures c.loop-place-test.true in
    let kind = kind_kept c.args.tables.now c.loop-place.tables c.args.row c.entity-entity.result c.loop-place.invariant.extends c.requires.row c.entity-entity.ensures in
    row_passed c.loop-place.tables c.args.row c.entity-entity.result kind c.args.tables.now c.loop-place.place _ key.within key.at
    (ap is_some (sym c.cell.ensures.value) ∙ sym c.is_some.ensures ∙ c.if-is_some.true) c.loop-place.invariant

pub bounds-keys-key : goal.bounds-keys-key
bounds-keys-key c = (at_key c.args.tables.now c.loop-place.tables c.args.row c.entity-entity.result c.args.keys.now c.keys_from-place-end.result.now c.keys_from.result.now c.loop-place.place c.requires.keys c.loop-place.invariant.extends c.requires.row c.entity-entity.ensures c.keys_from-place-end.ensures c.keys_from.ensures c.loop-place-test.true).below

pub fill_cell-requires-clause-key : goal.fill_cell-requires-clause-key
fill_cell-requires-clause-key c = (at_key c.args.tables.now c.loop-place.tables c.args.row c.entity-entity.result c.args.keys.now c.keys_from-place-end.result.now c.keys_from.result.now c.loop-place.place c.requires.keys c.loop-place.invariant.extends c.requires.row c.entity-entity.ensures c.keys_from-place-end.ensures c.keys_from.ensures c.loop-place-test.true).step

pub fill_cell-requires-clause-to : goal.fill_cell-requires-clause-to
fill_cell-requires-clause-to c =
    let key = at_key c.args.tables.now c.loop-place.tables c.args.row c.entity-entity.result c.args.keys.now c.keys_from-place-end.result.now c.keys_from.result.now c.loop-place.place c.requires.keys c.loop-place.invariant.extends c.requires.row c.entity-entity.ensures c.keys_from-place-end.ensures c.keys_from.ensures c.loop-place-test.true in
    read_target c.args.keys.now _ _ _ c.requires.range c.loop-place.invariant.extends.entities key.below

pub loop-place-preserved : goal.loop-place-preserved
loop-place-preserved c =
    let key = at_key c.args.tables.now c.loop-place.tables c.args.row c.entity-entity.result c.args.keys.now c.keys_from-place-end.result.now c.keys_from.result.now c.loop-place.place c.requires.keys c.loop-place.invariant.extends c.requires.row c.entity-entity.ensures c.keys_from-place-end.ensures c.keys_from.ensures c.loop-place-test.true in
    let empty = none_if c.cell.result c.is_some.result c.is_some.ensures c.if-is_some.false in
    row_made c.args.tables.now c.loop-place.tables c.fill_cell.new.tables c.args.row c.entity-entity.result c.loop-place.place _ _ c.requires.row c.entity-entity.ensures key.within key.at
    c.loop-place.invariant c.in_ok-fill_cell.ensures.whole c.in_ok-fill_cell.ensures.ok key.step (sym c.cell.ensures.value ∙ empty)

pub returns-clause-ok : goal.returns-clause-ok
returns-clause-ok c =
    let kind = kind_kept c.args.tables.now c.loop-place.tables c.args.row c.entity-entity.result c.loop-place.invariant.extends c.requires.row c.entity-entity.ensures in
    let past : length (keys_from (keys_of c.loop-place.tables) c.entity-entity.result) ≤ c.loop-place.place = omega (arith, c.loop-place-test.false, ap length c.keys_from-place-end.ensures, ap (λ keys. length (keys_from keys c.entity-entity.result)) c.loop-place.invariant.extends.keys) in
    row_done c.loop-place.tables c.args.row c.entity-entity.result kind c.args.tables.now c.loop-place.place past c.loop-place.invariant

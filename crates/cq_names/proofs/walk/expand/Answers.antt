use Rattle.std.proofs.Common.{ℕ, ◌∙◌, ◌+◌, ◌<◌, get_or, length, refl, ap, subst, sym, arith}
use Rattle.cq_tables.specs.Content.{keys_of}
use Rattle.cq_tables.specs.Places.{keys_from}
use Rattle.cq_tables.proofs.Starting.{next_key}
use Rattle.cq_rows.proofs.Filling.{listed_step, listed_key}
use Rattle.cq_names.specs.Walking.{Listing, IsExpanding}
use Rattle.cq_names.proofs.Expanding.{live_row, expanding_init, expanding_skip, expanding_step, expanding_first, expanding_next, expanding_all}
use Rattle.cq_names.proofs.walk.expand.Goals as goal
use Rattle.cq_names.proofs.walk.expand.Goals.{in-Some+in_ok-meet_step, in_default}

pub loop-key-init : goal.loop-key-init
loop-key-init c =
    expanding_first c.args.schema.now c.args.tables.now c.requires.whole c.requires.keys c.args.walk.now c.args.walk.now c.args.at c.index-row.result.now c.entity-entity.result (live_row c.args.tables.now c.args.walk.now.rows c.walk.inside.rows.items c.args.at c.index-row.result.now (ap (λ (w : Listing). w.rows) c.walk.view_is) c.requires.at c.index-row.ensures c.requires.live) c.entity-entity.ensures
    (expanding_init c.args.schema.now c.args.tables.now c.args.walk.now c.walk.inside.rows.items c.args.at c.index-row.result.now c.requires.marks c.requires.at c.requires.names (ap (λ (w : Listing). w.rows) c.walk.view_is) c.index-row.ensures)

pub cell-requires-clause-live : goal.cell-requires-clause-live
cell-requires-clause-live c =
    live_row c.args.tables.now c.args.walk.now.rows c.walk.inside.rows.items c.args.at c.index-row.result.now (ap (λ (w : Listing). w.rows) c.walk.view_is) c.requires.at c.index-row.ensures c.requires.live

pub cell-requires-clause-key : goal.cell-requires-clause-key
cell-requires-clause-key c = listed_step c.args.tables.now c.index-row.result.now c.entity-entity.result c.entity-entity.ensures c.keys_from-key-items.result.now c.loop-key.key-index _ 0 c.keys_from-key-items.ensures c.loop-key-test.true refl

pub loop-key-preserved : goal.loop-key-preserved
loop-key-preserved c =
    let key : ℕ = get_or c.keys_from-key-items.result.now c.loop-key.key-index 0 in
    let at_key = listed_key c.args.tables.now c.index-row.result.now c.entity-entity.result c.entity-entity.ensures c.keys_from-key-items.result.now c.loop-key.key-index _ 0 c.keys_from-key-items.ensures c.loop-key-test.true refl in
    let within : c.loop-key.key-index < length (keys_from (keys_of c.args.tables.now) c.entity-entity.result) = omega (arith, c.loop-key-test.true, ap length c.keys_from-key-items.ensures) in
    let here = subst (IsExpanding c.args.schema.now c.args.tables.now c.args.walk.now c.loop-key.walk c.args.at c.index-row.result.now) (sym at_key) c.loop-key.invariant in
    elim c.match-cell.branch [
      | in-Some+in_ok-meet_step w ↦
          subst (λ (x : Listing). IsExpanding c.args.schema.now c.args.tables.now c.args.walk.now x c.args.at c.index-row.result.now (next_key (keys_of c.args.tables.now) c.entity-entity.result (c.loop-key.key-index + 1))) (sym w.walk-is)
          (expanding_next c.args.schema.now c.args.tables.now c.requires.whole c.requires.keys c.args.walk.now w.meet_step.new.self c.args.at c.index-row.result.now c.entity-entity.result (live_row c.args.tables.now c.args.walk.now.rows c.walk.inside.rows.items c.args.at c.index-row.result.now (ap (λ (w : Listing). w.rows) c.walk.view_is) c.requires.at c.index-row.ensures c.requires.live) c.entity-entity.ensures c.loop-key.key-index key within at_key
          (expanding_step c.args.schema.now c.args.tables.now c.requires.whole c.requires.keys c.args.walk.now c.loop-key.walk w.meet_step.new.self c.args.at c.index-row.result.now key w.in-Some.to here
          (sym w.in-Some.ensures.value) w.in_ok-meet_step.ensures))
      | in_default w ↦
          subst (λ (x : Listing). IsExpanding c.args.schema.now c.args.tables.now c.args.walk.now x c.args.at c.index-row.result.now (next_key (keys_of c.args.tables.now) c.entity-entity.result (c.loop-key.key-index + 1))) (sym w.walk-is)
          (expanding_next c.args.schema.now c.args.tables.now c.requires.whole c.requires.keys c.args.walk.now c.loop-key.walk c.args.at c.index-row.result.now c.entity-entity.result (live_row c.args.tables.now c.args.walk.now.rows c.walk.inside.rows.items c.args.at c.index-row.result.now (ap (λ (w : Listing). w.rows) c.walk.view_is) c.requires.at c.index-row.ensures c.requires.live) c.entity-entity.ensures c.loop-key.key-index key within at_key
          (expanding_skip c.args.schema.now c.args.tables.now c.requires.whole c.requires.keys c.args.walk.now c.loop-key.walk c.args.at c.index-row.result.now key here
          (sym c.cell.ensures.value ∙ w.in_default.is)))
    ]

pub returns : goal.returns
returns c =
    expanding_all c.args.schema.now c.args.tables.now c.requires.whole c.requires.keys c.args.walk.now c.loop-key.walk c.args.at c.index-row.result.now c.entity-entity.result c.loop-key.key-index (omega (arith, c.loop-key-test.false, ap length c.keys_from-key-items.ensures)) c.loop-key.invariant

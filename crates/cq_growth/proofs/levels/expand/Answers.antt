use Rattle.std.proofs.Common.{ℕ, ◌∙◌, ◌+◌, ◌<◌, get_or, length, refl, ap, subst, sym, arith}
use Rattle.cq_tables.specs.Content.{keys_of}
use Rattle.cq_tables.specs.Places.{keys_from}
use Rattle.cq_tables.proofs.Starting.{next_key}
use Rattle.cq_rows.proofs.Filling.{listed_step, listed_key}
use Rattle.cq_growth.specs.Levels.{ExpandsTo}
use Rattle.cq_growth.specs.declared.levels.Level.{Level}
use Rattle.cq_growth.proofs.Expanding.{expands_none, expands_skip, expands_step, expands_first, expands_next, expands_all}
use Rattle.cq_growth.proofs.levels.expand.Goals as goal
use Rattle.cq_growth.proofs.levels.expand.Goals.{in-Some+in_ok-reach_along, in_default}

pub loop-key-init : goal.loop-key-init
loop-key-init c =
    let old = c.args.next.now in
    expands_first c.args.tables.now c.args.from.now old.members.items old.reached.items c.requires.whole c.entity-entity.result c.requires.live c.entity-entity.ensures
    old.members.items old.reached.items (expands_none c.args.tables.now c.args.from.now old.members.items old.reached.items)

pub cell-requires-clause-key : goal.cell-requires-clause-key
cell-requires-clause-key c =
    listed_step c.args.tables.now c.args.from.now.row c.entity-entity.result c.entity-entity.ensures c.keys_from-key-items.result.now c.loop-key.key-index _ 0 c.keys_from-key-items.ensures c.loop-key-test.true refl

pub loop-key-preserved : goal.loop-key-preserved
loop-key-preserved c =
    let m = c.args.tables.now in
    let from = c.args.from.now in
    let old = c.args.next.now in
    let now = c.loop-key.next in
    let i = c.loop-key.key-index in
    let entity = c.entity-entity.result in
    let key : ℕ = get_or c.keys_from-key-items.result.now i 0 in
    let at_key = listed_key m from.row entity c.entity-entity.ensures c.keys_from-key-items.result.now i _ 0 c.keys_from-key-items.ensures c.loop-key-test.true refl in
    let within : i < length (keys_from (keys_of m) entity) = omega (arith, c.loop-key-test.true, ap length c.keys_from-key-items.ensures) in
    let here = subst (λ k. ExpandsTo m from k old.members.items old.reached.items now.members.items now.reached.items) (sym at_key) c.loop-key.invariant in
    elim c.match-cell.branch [
      | in-Some+in_ok-reach_along w ↦
          let after = w.reach_along.new.level in
          subst (λ (x : Level). ExpandsTo m from (next_key (keys_of m) entity (i + 1)) old.members.items old.reached.items x.members.items x.reached.items) (sym w.next-is)
          (expands_next m from old.members.items old.reached.items c.requires.whole entity c.requires.live c.entity-entity.ensures i key after.members.items after.reached.items within at_key
          (expands_step m from old.members.items old.reached.items key w.in-Some.to now.members.items after.members.items now.reached.items after.reached.items
          (omega (arith, c.requires.whole.made w.in-Some.to w.in-Some.ensures.held.live, c.requires.marks, c.loop-key.invariant.marked)) (sym w.in-Some.ensures.value) w.in_ok-reach_along.ensures here))
      | in_default w ↦
          subst (λ (x : Level). ExpandsTo m from (next_key (keys_of m) entity (i + 1)) old.members.items old.reached.items x.members.items x.reached.items) (sym w.next-is)
          (expands_next m from old.members.items old.reached.items c.requires.whole entity c.requires.live c.entity-entity.ensures i key now.members.items now.reached.items within at_key
          (expands_skip m from old.members.items old.reached.items key now.members.items now.reached.items (sym c.cell.ensures.value ∙ w.in_default.is) here))
    ]

pub returns : goal.returns
returns c =
    expands_all c.args.tables.now c.args.from.now c.args.next.now.members.items c.args.next.now.reached.items c.requires.whole c.entity-entity.result c.requires.live c.entity-entity.ensures c.loop-key.key-index c.loop-key.next.members.items c.loop-key.next.reached.items
    (omega (arith, c.loop-key-test.false, ap length c.keys_from-key-items.ensures)) c.loop-key.invariant

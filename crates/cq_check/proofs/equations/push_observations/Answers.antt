use Rattle.std.proofs.Common.{◌<◌, ◌∙◌, length, sym, arith}
use Rattle.cq_theory.proofs.Grouped.{group_within, group_read}
use Rattle.cq_check.proofs.Listed.{rows_none, rows_skipped, rows_added}
use Rattle.cq_check.proofs.equations.push_observations.Goals as goal

pub loop-row-init : goal.loop-row-init
loop-row-init c = rows_none c.args.schema.now c.args.tables.now c.args.list.now

pub loop-row-preserved-then-not-alive : goal.loop-row-preserved-then-not-alive
loop-row-preserved-then-not-alive c = rows_skipped c.args.schema.now c.args.tables.now c.args.list.now c.loop-row.list c.loop-row.row (sym c.live-alive.ensures ∙ c.if-not-alive.true) c.loop-row.invariant

pub push_row-requires-clause-count : goal.push_row-requires-clause-count
push_row-requires-clause-count c = omega (arith, c.requires.count, c.loop-row.invariant.grows.count)

pub loop-row-preserved : goal.loop-row-preserved
loop-row-preserved c =
    rows_added c.args.schema.now c.args.tables.now c.args.list.now c.loop-row.list c.push_row.new.list c.loop-row.row c.in_ok-push_row.ensures.grows c.in_ok-push_row.ensures.sound c.in_ok-push_row.ensures.has c.loop-row.invariant

pub returns-clause-grows : goal.returns-clause-grows
returns-clause-grows c = c.loop-row.invariant.grows

pub returns-clause-sound : goal.returns-clause-sound
returns-clause-sound c = c.loop-row.invariant.sound

pub returns-clause-has : goal.returns-clause-has
returns-clause-has c = λ row less live. c.loop-row.invariant.has row (omega (arith, less, c.loop-row-test.false, c.made-row-end.ensures)) live

pub of-places-requires : goal.of-places-requires
of-places-requires c =
    let within : c.entity.result < length c.args.schema.now.entities = omega (arith, c.requires.whole.kind c.loop-row.row (omega (arith, c.loop-row-test.true, c.made-row-end.ensures)), c.entity.ensures, c.requires.entities) in
    group_within _ _ c.entity.result _ c.requires.observations within

pub push_row-requires-clause-places : goal.push_row-requires-clause-places
push_row-requires-clause-places c =
    let within : c.entity.result < length c.args.schema.now.entities = omega (arith, c.requires.whole.kind c.loop-row.row (omega (arith, c.loop-row-test.true, c.made-row-end.ensures)), c.entity.ensures, c.requires.entities) in
    rw c.entity.ensures at (group_read _ _ c.entity.result _ c.requires.observations within _ c.of-places.ensures)

pub push_row-requires-clause-schema : goal.push_row-requires-clause-schema
push_row-requires-clause-schema c = c.is_well_sorted.ensures

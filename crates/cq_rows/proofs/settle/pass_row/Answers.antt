use Rattle.std.proofs.Common.{◌<◌, length, sym, ◌∙◌, arith}
use Rattle.std.proofs.lemmas.Bool.{false≢true}
use Rattle.std.proofs.lemmas.Option.{slice_get-get_or}
use Rattle.std.specs.Prelude.{slice_index_or}
use Rattle.cq_theory.proofs.Grouped.{group_within, group_read}
use Rattle.cq_rows.specs.Theory.{Rule}
use Rattle.cq_rows.specs.Origin.{theory_at}
use Rattle.cq_rows.proofs.Ready.{ready_after}
use Rattle.cq_rows.proofs.ByEntity.{position_below, one_more_place, hold_there}
use Rattle.cq_rows.proofs.Passing.{Passes-start, Passes-keep, Passes-inner, Passes-outer}
use Rattle.cq_rows.proofs.settle.pass_row.Goals as goal

pub returns-then-not-live : goal.returns-then-not-live
returns-then-not-live c = Passes-start _ _ _ _ c.requires.ready.whole c.requires.ready.current (λ l i u f k. absurd (false≢true (sym c.if-not-live.true ∙ c.live.ensures ∙ l)))

pub of-place-items-requires : goal.of-place-items-requires
of-place-items-requires c =
    let within : c.entity.result < length c.args.origin.now.schema.now.entities = omega (arith, c.requires.ready.whole.kind c.args.row c.requires.row, c.entity.ensures, c.requires.ready.entities) in
    group_within _ _ c.entity.result _ (c.requires.ready.groups (omega (arith, c.requires.row))) within

pub loop-place-init : goal.loop-place-init
loop-place-init c = Passes-start _ _ _ _ c.requires.ready.whole c.requires.ready.current (λ r i b. absurd (omega arith))

pub join_rule-requires-clause-place : goal.join_rule-requires-clause-place
join_rule-requires-clause-place c =
    let within : c.entity.result < length c.args.origin.now.schema.now.entities = omega (arith, c.requires.ready.whole.kind c.args.row c.requires.row, c.entity.ensures, c.requires.ready.entities) in
    let is = group_read _ _ c.entity.result _ (c.requires.ready.groups (omega (arith, c.requires.row))) within _ c.of-place-items.ensures in
    position_below (λ (e : Rule). e.entity) c.args.origin.now.schema.now.path_eqs c.entity.result c.loop-place.place-index (slice_index_or c.of-place-items.result.now c.loop-place.place-index 0)
    (rw (← is) (slice_get-get_or c.of-place-items.result.now c.loop-place.place-index 0 c.loop-place-test.true))

pub loop-place-preserved-then-not-one : goal.loop-place-preserved-then-not-one
loop-place-preserved-then-not-one c = Passes-outer (theory_at c.args.origin.now) c.args.tables.now c.loop-place.tables c.join_rule.new.tables c.args.rows.now c.loop-place.rows c.join_rule.new.rows c.loop-place.merged c.in_ok-one.one _ _ _ c.if-not-one.true c.loop-place.invariant c.in_ok-one.ensures
    (λ e h q. one_more_place (theory_at c.args.origin.now) c.loop-place.tables c.args.tables.now c.args.row c.of-place-items.result.now c.loop-place.place-index e c.loop-place-test.true q h)

pub loop-place-preserved : goal.loop-place-preserved
loop-place-preserved c = Passes-inner (theory_at c.args.origin.now) c.args.tables.now c.loop-place.tables c.join_rule.new.tables c.args.rows.now c.loop-place.rows c.join_rule.new.rows c.loop-place.merged c.in_ok-one.one _ _ _ c.if-not-one.false c.loop-place.invariant c.in_ok-one.ensures

pub returns : goal.returns
returns c =
    let within : c.entity.result < length c.args.origin.now.schema.now.entities = omega (arith, c.requires.ready.whole.kind c.args.row c.requires.row, c.entity.ensures, c.requires.ready.entities) in
    let is = group_read _ _ c.entity.result _ (c.requires.ready.groups (omega (arith, c.requires.row))) within _ c.of-place-items.ensures in
    Passes-keep _ _ _ _ _ _ _ _ c.loop-place.invariant
    (λ e f h. hold_there (theory_at c.args.origin.now) c.args.tables.now c.args.row c.of-place-items.result.now c.loop-place.place-index (rw c.entity.ensures at is) (omega (arith, c.loop-place-test.false)) h)

pub join_rule-requires-clause-ready : goal.join_rule-requires-clause-ready
join_rule-requires-clause-ready c = ready_after _ _ _ _ _ c.requires.ready c.loop-place.invariant.settling

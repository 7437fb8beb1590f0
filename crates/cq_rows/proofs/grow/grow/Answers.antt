use Rattle.std.proofs.Common.{◌≡◌, ◌+◌, length, map, refl, sym, ap, ◌∙◌, arith}
use Rattle.std.proofs.lemmas.Result.{err_from_is_err_and}
use Rattle.cq_rows.specs.Entries.{rows_of}
use Rattle.cq_rows.proofs.Answered.{same_refusal}
use Rattle.cq_rows.proofs.Current.{IsBehind-start, IsBehind-extended}
use Rattle.cq_rows.specs.Origin.{theory_at}
use Rattle.cq_rows.specs.Plain.{ends_of}
use Rattle.cq_rows.proofs.WellSorted.{ends_in}
use Rattle.cq_rows.proofs.Stages.{IsGrown-begun, IsGrown-filled, may_settle, stage_settled, one_more_open, stage_closed, as_stage, not_filled, some_made}
use Rattle.cq_rows.proofs.Wideness.{wide_from_rows}
use Rattle.cq_rows.proofs.grow.grow.Goals as goal

pub settle-requires : goal.settle-requires
settle-requires c =
    let s = theory_at c.args.origin.now in
    let g = IsGrown-begun s c.in_ok-tables.tables c.in_ok-tables.first.items c.in_ok-tables.ensures.begun in
    let a = may_settle s c.in_ok-tables.tables c.in_ok-tables.first.items (rows_of c.new-rows.result) 0 c.new-rows.ensures.rows g in
    record { theory = c.requires.theory; keys = a.keys; groups = λ some. c.requires.outline.path_equations (c.in_ok-tables.ensures.some some); entities = g.sound.1.entities; whole = a.whole; behind = IsBehind-start c.in_ok-tables.tables c.new-rows.result c.new-rows.ensures.count; rows = a.have; count = a.count }

pub loop-stage-init : goal.loop-stage-init
loop-stage-init c =
    let s = theory_at c.args.origin.now in
    let g = IsGrown-begun s c.in_ok-tables.tables c.in_ok-tables.first.items c.in_ok-tables.ensures.begun in
    record {
      stage = stage_settled s c.in_ok-tables.tables c.settle.new.tables c.in_ok-tables.first.items (rows_of c.new-rows.result) (rows_of c.settle.new.rows) _ 0 c.new-rows.ensures.rows refl g c.in_ok-settle.ensures.made c.in_ok-settle.ensures.whole c.in_ok-settle.ensures.image c.in_ok-settle.ensures.sound c.in_ok-settle.ensures.rules c.in_ok-settle.ensures.given;
      listed = λ some. c.requires.outline.path_equations (c.in_ok-tables.ensures.some (omega (arith, some, c.in_ok-settle.ensures.image.1.made)));
      current = c.in_ok-settle.ensures.current;
      opened = λ i h. absurd (omega arith);
    }

pub returns-then-count_live-gt-MOST_ROWS-clause-many : goal.returns-then-count_live-gt-MOST_ROWS-clause-many
returns-then-count_live-gt-MOST_ROWS-clause-many c = λ _.
    let s = theory_at c.args.origin.now in
    let g = IsGrown-begun s c.in_ok-tables.tables c.in_ok-tables.first.items c.in_ok-tables.ensures.begun in
    let h = stage_settled s c.in_ok-tables.tables c.settle.new.tables c.in_ok-tables.first.items (rows_of c.new-rows.result) (rows_of c.settle.new.rows) _ 0 c.new-rows.ensures.rows refl g c.in_ok-settle.ensures.made c.in_ok-settle.ensures.whole c.in_ok-settle.ensures.image c.in_ok-settle.ensures.sound c.in_ok-settle.ensures.rules c.in_ok-settle.ensures.given in
    (0, omega arith, wide_from_rows s c.settle.new.tables (rows_of c.settle.new.rows) 0 200000 c.requires.theory h (omega (arith, c.count_live.ensures, c.if-count_live-gt-MOST_ROWS.true)))

pub settle-requires-in-loop-stage : goal.settle-requires-in-loop-stage
settle-requires-in-loop-stage c =
    let s = theory_at c.args.origin.now in
    let g = IsGrown-filled s c.loop-stage.tables c.fill.new.tables (rows_of c.loop-stage.rows) c.loop-stage._stage c.loop-stage.invariant.stage.grown c.in_ok-fill.ensures.whole c.in_ok-fill.ensures.ok in
    let a = may_settle s c.fill.new.tables (rows_of c.loop-stage.rows) (rows_of c.loop-stage.rows) (c.loop-stage._stage + 1) refl g in
    record { theory = c.requires.theory; keys = a.keys; groups = λ _. c.loop-stage.invariant.listed (some_made c.loop-stage.tables c.loop-stage.invariant.stage.grown.whole c.if-all_filled.ensures); entities = g.sound.1.entities; whole = a.whole; behind = IsBehind-extended c.loop-stage.tables c.fill.new.tables c.loop-stage.rows c.in_ok-fill.ensures.ok.extends c.loop-stage.invariant.current; rows = a.have; count = a.count }

pub loop-stage-preserved : goal.loop-stage-preserved
loop-stage-preserved c =
    let s = theory_at c.args.origin.now in
    let g = IsGrown-filled s c.loop-stage.tables c.fill.new.tables (rows_of c.loop-stage.rows) c.loop-stage._stage c.loop-stage.invariant.stage.grown c.in_ok-fill.ensures.whole c.in_ok-fill.ensures.ok in
    record {
      stage = stage_settled s c.fill.new.tables c.settle-in-loop-stage.new.tables (rows_of c.loop-stage.rows) (rows_of c.loop-stage.rows) (rows_of c.settle-in-loop-stage.new.rows) _ (c.loop-stage._stage + 1) refl refl g c.in_ok-settle-2.ensures.made c.in_ok-settle-2.ensures.whole c.in_ok-settle-2.ensures.image c.in_ok-settle-2.ensures.sound c.in_ok-settle-2.ensures.rules c.in_ok-settle-2.ensures.given;
      listed = λ _. c.loop-stage.invariant.listed (some_made c.loop-stage.tables c.loop-stage.invariant.stage.grown.whole c.if-all_filled.ensures);
      current = c.in_ok-settle-2.ensures.current;
      opened = one_more_open s c.loop-stage.tables (rows_of c.loop-stage.rows) c.loop-stage._stage c.requires.theory c.loop-stage.invariant.stage c.if-all_filled.ensures c.loop-stage.invariant.opened;
    }

pub returns-then-count_live-gt-MOST_ROWS-2-clause-many : goal.returns-then-count_live-gt-MOST_ROWS-2-clause-many
returns-then-count_live-gt-MOST_ROWS-2-clause-many c = λ _.
    let s = theory_at c.args.origin.now in
    let g = IsGrown-filled s c.loop-stage.tables c.fill.new.tables (rows_of c.loop-stage.rows) c.loop-stage._stage c.loop-stage.invariant.stage.grown c.in_ok-fill.ensures.whole c.in_ok-fill.ensures.ok in
    let h = stage_settled s c.fill.new.tables c.settle-in-loop-stage.new.tables (rows_of c.loop-stage.rows) (rows_of c.loop-stage.rows) (rows_of c.settle-in-loop-stage.new.rows) _ (c.loop-stage._stage + 1) refl refl g c.in_ok-settle-2.ensures.made c.in_ok-settle-2.ensures.whole c.in_ok-settle-2.ensures.image c.in_ok-settle-2.ensures.sound c.in_ok-settle-2.ensures.rules c.in_ok-settle-2.ensures.given in
    (c.loop-stage._stage + 1, omega arith, wide_from_rows s c.settle-in-loop-stage.new.tables (rows_of c.settle-in-loop-stage.new.rows) (c.loop-stage._stage + 1) 200000 c.requires.theory h (omega (arith, c.count_live-in-loop-stage.ensures, c.if-count_live-gt-MOST_ROWS-2.true)))

pub all_filled-requires : goal.all_filled-requires
all_filled-requires c = record { whole = c.loop-stage.invariant.stage.grown.whole }

pub all_filled-closed-requires : goal.all_filled-closed-requires
all_filled-closed-requires c = record { whole = c.loop-stage.invariant.stage.grown.whole }

pub look_ahead-requires : goal.look_ahead-requires
look_ahead-requires c =
    let g = c.loop-stage.invariant.stage.grown in
    record { schema = c.requires.schema; frame = c.requires.outline.frame; keys = g.sound.1.keys; entities = g.sound.1.entities; whole = g.whole }

pub returns-in_err-look_ahead-clause-many : goal.returns-in_err-look_ahead-clause-many
returns-in_err-look_ahead-clause-many c =
    let p = err_from_is_err_and c.from_residual-in_err-look_ahead.result c.from_residual-in_err-look_ahead.ensures.1 in
    rw (p.1, p.2) (λ e. c.in_err-look_ahead.ensures (same_refusal _ _ e))

pub fill-requires : goal.fill-requires
fill-requires c =
    let g = c.loop-stage.invariant.stage.grown in
    let keys : c.deref.result.now ≡ map ends_of c.args.origin.now.schema.now.keys = c.deref.ensures.value ∙ c.requires.outline.frame.keys in
    record {
      few = rw (ap length keys) c.requires.theory.few;
      range = rw (keys, g.sound.1.entities) (ends_in c.args.origin.now.schema.now c.requires.schema);
      keys = g.sound.1.keys ∙ sym keys;
      whole = g.whole;
    }

pub returns-then-all_filled-clause-stage : goal.returns-then-all_filled-clause-stage
returns-then-all_filled-clause-stage c = stage_closed (theory_at c.args.origin.now) c.loop-stage.tables (rows_of c.loop-stage.rows) c.loop-stage._stage c.args.depth c.loop-stage.invariant.stage c.if-all_filled.ensures (omega arith)

pub returns-clause-stage : goal.returns-clause-stage
returns-clause-stage c = as_stage (theory_at c.args.origin.now) c.loop-stage.tables (rows_of c.loop-stage.rows) c.loop-stage._stage c.args.depth (omega arith) c.loop-stage.invariant.stage

pub returns-clause-unclosed : goal.returns-clause-unclosed
returns-clause-unclosed c = λ e j b.
    let s = theory_at c.args.origin.now in
    let empty = not_filled c.loop-stage.tables c.all_filled-closed.result e c.all_filled-closed.ensures in
    one_more_open s c.loop-stage.tables (rows_of c.loop-stage.rows) c.loop-stage._stage c.requires.theory c.loop-stage.invariant.stage empty c.loop-stage.invariant.opened j (omega arith)

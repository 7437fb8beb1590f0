use Rattle.std.proofs.Common.{arith}
use Rattle.cq_rows.specs.Origin.{theory_at}
use Rattle.cq_rows.proofs.Ready.{ready_after}
use Rattle.cq_rows.proofs.Cells.{live_made}
use Rattle.cq_rows.proofs.Settling.{settling_then}
use Rattle.cq_rows.proofs.Passing.{Passes-start, Passes-keep, Passes-inner, Passes-outer, Passes-further, one_more_row}
use Rattle.cq_rows.proofs.settle.pass_rules.Goals as goal

pub loop-row-init : goal.loop-row-init
loop-row-init c = Passes-start _ _ _ _ c.requires.ready.whole c.requires.ready.current (λ r b. absurd (omega arith))

pub loop-row-preserved : goal.loop-row-preserved
loop-row-preserved c =
    let s = theory_at c.args.origin.now in
    Passes-further s c.args.tables.now c.pass_row.new.tables c.go_on.new.tables c.args.rows.now c.pass_row.new.rows c.go_on.new.rows (Unit {0}) _
    (Passes-inner s c.args.tables.now c.loop-row.tables c.pass_row.new.tables c.args.rows.now c.loop-row.rows c.pass_row.new.rows c.loop-row.merged c.in_ok-one.one _ _ (Unit {0}) c.if-not-one.false c.loop-row.invariant c.in_ok-one.ensures)
    c.in_ok-go_on.ensures

pub loop-row-preserved-then-not-one : goal.loop-row-preserved-then-not-one
loop-row-preserved-then-not-one c = Passes-outer (theory_at c.args.origin.now) c.args.tables.now c.loop-row.tables c.pass_row.new.tables c.args.rows.now c.loop-row.rows c.pass_row.new.rows c.loop-row.merged c.in_ok-one.one _ _ _ c.if-not-one.true c.loop-row.invariant c.in_ok-one.ensures
    (λ e h q. one_more_row (theory_at c.args.origin.now) c.args.tables.now c.loop-row.tables c.loop-row.row e h q)

pub returns : goal.returns
returns c = Passes-keep _ _ _ _ _ _ _ _ c.loop-row.invariant (λ e f h r i u l. h r (omega (arith, live_made c.args.tables.now r c.requires.ready.whole l, c.made-row-end.ensures)) l i u)

pub pass_row-requires-clause-ready : goal.pass_row-requires-clause-ready
pass_row-requires-clause-ready c = ready_after _ _ _ _ _ c.requires.ready c.loop-row.invariant.settling

pub go_on-requires : goal.go_on-requires
go_on-requires c = record { ready = ready_after _ _ _ _ _ c.requires.ready (settling_then _ _ _ _ _ _ _ c.loop-row.invariant.settling c.in_ok-one.ensures.settling) }

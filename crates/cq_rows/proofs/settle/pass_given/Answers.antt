use Rattle.std.proofs.Common.{◌≡◌, length, arith, refl}
use Rattle.std.proofs.lemmas.List.{length-map}
use Rattle.std.proofs.lemmas.Option.{slice_get_within}
use Rattle.cq_rows.specs.Origin.{theory_at}
use Rattle.cq_rows.proofs.Ready.{ready_after}
use Rattle.cq_rows.proofs.Settling.{settling_then}
use Rattle.cq_rows.proofs.Passing.{Passes-start, Passes-keep, Passes-inner, Passes-further}
use Rattle.cq_rows.proofs.settle.pass_given.Goals as goal

pub loop-place-init : goal.loop-place-init
loop-place-init c = Passes-start _ _ _ _ c.requires.ready.whole c.requires.ready.current (λ i t u b. absurd (omega arith))

pub loop-place-preserved : goal.loop-place-preserved
loop-place-preserved c =
    let s = theory_at c.args.origin.now in
    Passes-further s c.args.tables.now c.join_given.new.tables c.go_on.new.tables c.args.rows.now c.join_given.new.rows c.go_on.new.rows (Unit {0}) _
    (Passes-inner s c.args.tables.now c.loop-place.tables c.join_given.new.tables c.args.rows.now c.loop-place.rows c.join_given.new.rows c.loop-place.merged c.in_ok-one.one _ _ (Unit {0}) c.if-not-one.false c.loop-place.invariant c.in_ok-one.ensures)
    c.in_ok-go_on.ensures

pub returns : goal.returns
returns c =
    let s = theory_at c.args.origin.now in
    let len : length s.given ≡ length c.args.origin.now.presentation.now.equations = rw length-map refl in
    Passes-keep _ _ _ _ _ _ _ _ c.loop-place.invariant (λ e f h i t u k. h i t u (omega (arith, slice_get_within s.given i _ k, len)) k)

pub join_given-requires-clause-ready : goal.join_given-requires-clause-ready
join_given-requires-clause-ready c = ready_after _ _ _ _ _ c.requires.ready c.loop-place.invariant.settling

pub go_on-requires : goal.go_on-requires
go_on-requires c = record { ready = ready_after _ _ _ _ _ c.requires.ready (settling_then _ _ _ _ _ _ _ c.loop-place.invariant.settling c.in_ok-one.ensures.settling) }

use Rattle.std.proofs.Common.{length, arith, ◌∙◌, ap, refl}
use Rattle.std.proofs.lemmas.List.{length-set}
use Rattle.cq_tables.proofs.Filled.{set_as}
use Rattle.cq_tables.proofs.Reading.{place_as, cell_read, live_made}
use Rattle.cq_tables.proofs.tables.Tables.set_cell.Goals as goal

pub reserve-requires : goal.reserve-requires
reserve-requires c =
    let to = rw (← c.self.view_is) at c.requires.to in
    omega (arith, live_made _ _ _ _ _ _ _ c.self.invariant.laid c.args.to c.self.invariant.whole to, c.self.invariant.laid.one_count)

pub point-requires-clause-place : goal.point-requires-clause-place
point-requires-clause-place c =
    let row = rw (← c.self.view_is) at c.requires.row in
    let key = rw (← c.self.view_is) at c.requires.key in
    let place = rw (← c.self.view_is) at c.place-place.ensures in
    let made = live_made _ _ _ _ _ _ _ c.self.invariant.laid c.args.row c.self.invariant.whole row in
    rw c.reserve.ensures.cells (place_as c.self.inside.plan.value.entities _ _ c.self.inside.alive.items _ _ _ c.self.invariant.laid c.args.row c.args.key c.place-place.result made (rw key refl) place).below

pub point-requires-clause-empty : goal.point-requires-clause-empty
point-requires-clause-empty c =
    let row = rw (← c.self.view_is) at c.requires.row in
    let key = rw (← c.self.view_is) at c.requires.key in
    let empty = rw (← c.self.view_is) at c.requires.empty in
    let place = rw (← c.self.view_is) at c.place-place.ensures in
    let made = live_made _ _ _ _ _ _ _ c.self.invariant.laid c.args.row c.self.invariant.whole row in
    let p = place_as c.self.inside.plan.value.entities _ _ c.self.inside.alive.items _ _ _ c.self.invariant.laid c.args.row c.args.key c.place-place.result made (rw key refl) place in
    rw c.reserve.ensures.cells (cell_read c.self.inside.plan.value.entities _ _ c.self.inside.alive.items _ _ _ c.self.invariant.laid c.args.row c.args.key c.place-place.result _ made (rw key refl) p refl ∙ empty)

pub point-requires-clause-row : goal.point-requires-clause-row
point-requires-clause-row c =
    let to = rw (← c.self.view_is) at c.requires.to in
    rw c.reserve.ensures.counts (omega (arith, live_made _ _ _ _ _ _ _ c.self.invariant.laid c.args.to c.self.invariant.whole to, c.self.invariant.laid.one_count))

pub invariant_of-self-2 : goal.invariant_of-self-2
invariant_of-self-2 c =
    let row = rw (← c.self.view_is) at c.requires.row in
    let to = rw (← c.self.view_is) at c.requires.to in
    let key = rw (← c.self.view_is) at c.requires.key in
    let place = rw (← c.self.view_is) at c.place-place.ensures in
    let cells = rw c.reserve.ensures.cells at c.point.ensures.cells in
    let counts = rw (length-set, c.reserve.ensures.counts) at (ap length c.point.ensures.counts) in
    let a = set_as _ _ _ _ _ _ _ _ _ c.args.row c.args.key c.args.to c.place-place.result c.self.invariant.laid c.self.invariant.whole row to key place cells counts in
    record { whole = a.whole; laid = a.laid }

pub returns-clause-ok : goal.returns-clause-ok
returns-clause-ok c =
    let row = rw (← c.self.view_is) at c.requires.row in
    let to = rw (← c.self.view_is) at c.requires.to in
    let key = rw (← c.self.view_is) at c.requires.key in
    let place = rw (← c.self.view_is) at c.place-place.ensures in
    let cells = rw c.reserve.ensures.cells at c.point.ensures.cells in
    let counts = rw (length-set, c.reserve.ensures.counts) at (ap length c.point.ensures.counts) in
    rw (← c.self.view_is) (set_as _ _ _ _ _ _ _ _ _ c.args.row c.args.key c.args.to c.place-place.result c.self.invariant.laid c.self.invariant.whole row to key place cells counts).sets

pub returns-clause-whole : goal.returns-clause-whole
returns-clause-whole c =
    let row = rw (← c.self.view_is) at c.requires.row in
    let to = rw (← c.self.view_is) at c.requires.to in
    let key = rw (← c.self.view_is) at c.requires.key in
    let place = rw (← c.self.view_is) at c.place-place.ensures in
    let cells = rw c.reserve.ensures.cells at c.point.ensures.cells in
    let counts = rw (length-set, c.reserve.ensures.counts) at (ap length c.point.ensures.counts) in
    (set_as _ _ _ _ _ _ _ _ _ c.args.row c.args.key c.args.to c.place-place.result c.self.invariant.laid c.self.invariant.whole row to key place cells counts).whole

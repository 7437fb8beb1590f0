use Rattle.cq_tables.proofs.Reading.{place_as, cell_read, held_read, live_made}
use Rattle.cq_tables.proofs.tables.Tables.cell.Goals as goal

pub get-requires : goal.get-requires
get-requires c =
    let live = rw (← c.self.view_is) at c.requires.live in
    let key = rw (← c.self.view_is) at c.requires.key in
    let place = rw (← c.self.view_is) at c.place.ensures in
    let made = live_made _ _ _ _ _ _ _ c.self.invariant.laid c.args.row c.self.invariant.whole live in
    (place_as _ _ _ _ _ _ _ c.self.invariant.laid c.args.row c.args.key c.place.result made key place).below

value_is : goal.returns-clause-value
value_is c =
    let live = rw (← c.self.view_is) at c.requires.live in
    let key = rw (← c.self.view_is) at c.requires.key in
    let place = rw (← c.self.view_is) at c.place.ensures in
    let made = live_made _ _ _ _ _ _ _ c.self.invariant.laid c.args.row c.self.invariant.whole live in
    let p = place_as _ _ _ _ _ _ _ c.self.invariant.laid c.args.row c.args.key c.place.result made key place in
    rw (← c.self.view_is) (cell_read _ _ _ _ _ _ _ c.self.invariant.laid c.args.row c.args.key c.place.result c.get.result made key p c.get.ensures.value)

pub returns-clause-value : goal.returns-clause-value
returns-clause-value c = value_is c

pub returns-clause-held : goal.returns-clause-held
returns-clause-held c =
    let live = rw (← c.self.view_is) at c.requires.live in
    let value = rw (← c.self.view_is) at (value_is c) in
    rw (← c.self.view_is) (held_read _ _ _ _ _ _ _ c.self.invariant.laid c.args.row c.args.key c.get.result c.self.invariant.whole live value)

use Rattle.cq_flat.specs.Constants.{constants_at}
use Rattle.cq_flat.specs.Places.{values_in}
use Rattle.cq_flat.proofs.Readings.{within_all, apart, values_hold, values_serve, clash_holds}
use Rattle.cq_flat.proofs.flat.Flat.close.Goals as goal

pub clash_of-requires-clause-within : goal.clash_of-requires-clause-within
clash_of-requires-clause-within c =
    let exact = rw c.as_slice-list.ensures.value at c.in_ok-classes.ensures in
    rw (c.as_slice-list.ensures.value, c.as_slice-numbers.ensures.value) (within_all c.args.nodes.items c.args.equations.items c.in_ok-classes.classes.items exact)

pub values_of-requires-clause-apart : goal.values_of-requires-clause-apart
values_of-requires-clause-apart c =
    let exact = rw c.as_slice-list.ensures.value at c.in_ok-classes.ensures in
    let least = rw (c.as_slice-list.ensures.value, c.as_slice-numbers.ensures.value) at c.in_ok-constants.ensures in
    rw (c.as_slice-list.ensures.value, c.as_slice-least.ensures.value)
    (apart c.args.nodes.items c.args.equations.items c.in_ok-classes.classes.items exact (constants_at c.args.nodes.items c.in_ok-constants.constants.items) least)

pub entries_of-requires-clause-values : goal.entries_of-requires-clause-values
entries_of-requires-clause-values c =
    let exact = rw c.as_slice-list.ensures.value at c.in_ok-classes.ensures in
    let least = rw (c.as_slice-list.ensures.value, c.as_slice-numbers.ensures.value) at c.in_ok-constants.ensures in
    let values = rw (c.as_slice-list.ensures.value, c.as_slice-numbers.ensures.value, c.as_slice-least.ensures.value) at c.in_ok-values.ensures.values in
    rw (c.as_slice-list.ensures.value, c.as_slice-numbers.ensures.value)
    (values_serve c.args.nodes.items c.args.equations.items c.in_ok-classes.classes.items exact (constants_at c.args.nodes.items c.in_ok-constants.constants.items) least (values_in c.in_ok-values.values) values)

pub returns-clause-values : goal.returns-clause-values
returns-clause-values c =
    let exact = rw c.as_slice-list.ensures.value at c.in_ok-classes.ensures in
    let least = rw (c.as_slice-list.ensures.value, c.as_slice-numbers.ensures.value) at c.in_ok-constants.ensures in
    let values = rw (c.as_slice-list.ensures.value, c.as_slice-numbers.ensures.value, c.as_slice-least.ensures.value) at c.in_ok-values.ensures.values in
    (values_hold c.args.nodes.items c.args.equations.items c.in_ok-classes.classes.items exact (constants_at c.args.nodes.items c.in_ok-constants.constants.items) least (values_in c.in_ok-values.values) values)

pub returns-clause-clash : goal.returns-clause-clash
returns-clause-clash c =
    let exact = rw c.as_slice-list.ensures.value at c.in_ok-classes.ensures in
    let least = rw (c.as_slice-list.ensures.value, c.as_slice-numbers.ensures.value) at c.in_ok-constants.ensures in
    clash_holds c.args.nodes.items c.args.equations.items c.in_ok-classes.classes.items exact (constants_at c.args.nodes.items c.in_ok-constants.constants.items) least c.in_ok-clash.clash
    (rw (c.as_slice-list.ensures.value, c.as_slice-numbers.ensures.value, c.as_slice-least.ensures.value) at c.in_ok-clash.ensures)

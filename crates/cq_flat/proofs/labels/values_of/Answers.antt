use Rattle.std.proofs.Common.{◌≡◌, ℕ, ◌<◌, ◌≤◌, length, get_or, sym, ap, ◌∙◌, arith}
use Rattle.cq_flat.specs.Constants.{constants_at}
use Rattle.cq_flat.proofs.Placed.{placed_at}
use Rattle.cq_flat.proofs.Valuing.{IsValuing, valuing_none, valuing_again, valuing_new, valued_values, valued_placed, valued_labels}
use Rattle.cq_flat.proofs.labels.values_of.Goals as goal

pub loop-node-init : goal.loop-node-init
loop-node-init c =
    rw (c.in_ok-placed.ensures.items, c.new-nulls.ensures.items, c.in_ok-values.ensures.places, c.in_ok-values.ensures.different)
    (valuing_none c.args.classes.now (constants_at c.args.nodes.now c.args.least.now))

pub loop-node-preserved-then-place-count : goal.loop-node-preserved-then-place-count
loop-node-preserved-then-place-count c =
    let e = rw c.as_slice.ensures.value at c.place_at-place.ensures in
    rw c.in_ok-push.ensures.items
    (valuing_again c.args.classes.now (constants_at c.args.nodes.now c.args.least.now) c.loop-node.node c.loop-node.placed.items c.loop-node.nulls.items c.loop-node.values.places.items
    c.loop-node.values.different.items c.loop-node.invariant c.place_at-place.result e c.if-place-count.true)

pub loop-node-preserved : goal.loop-node-preserved
loop-node-preserved c =
    let k : ℕ = get_or c.args.classes.now c.loop-node.node 0 in
    let here : k < length c.args.classes.now = c.requires.within c.loop-node.node 0 (omega arith) in
    let l : k < length c.args.least.now = omega (arith, here, c.requires.count) in
    let e = rw c.as_slice.ensures.value at c.place_at-place.ensures in
    let none : length c.args.classes.now ≤ get_or c.loop-node.placed.items k (length c.args.classes.now) = omega (arith, e, c.if-place-count.false) in
    let m : c.len-place.result ≡ length c.loop-node.values.different.items = omega (arith, c.len-place.ensures, c.loop-node.values.different.ok.0) in
    let given = rw (← placed_at c.args.nodes.now c.args.least.now k 0 l) at c.in_ok-value.ensures in
    rw (c.in_ok-push-2.ensures.items, c.in_ok-push-3.ensures.items, m)
    (valuing_new c.args.classes.now (constants_at c.args.nodes.now c.args.least.now) c.loop-node.node c.loop-node.placed.items c.loop-node.nulls.items c.loop-node.values.places.items
    c.loop-node.values.different.items c.loop-node.invariant here (omega arith) none c.in_ok-value.value c.write_place.new.placed.items (rw m at c.in_ok-write_place.ensures) c.new_value.new.nulls.items given)

pub returns-clause-values : goal.returns-clause-values
returns-clause-values c =
    let n : c.loop-node.node ≡ length c.args.classes.now = omega arith in
    let s : IsValuing c.args.classes.now (constants_at c.args.nodes.now c.args.least.now) (length c.args.classes.now) c.loop-node.placed.items c.loop-node.nulls.items c.loop-node.values.places.items c.loop-node.values.different.items = rw n at c.loop-node.invariant in
    valued_values c.args.classes.now (constants_at c.args.nodes.now c.args.least.now) c.loop-node.placed.items c.loop-node.nulls.items c.loop-node.values.places.items c.loop-node.values.different.items s c.requires.apart

pub returns-clause-placed : goal.returns-clause-placed
returns-clause-placed c =
    let n : c.loop-node.node ≡ length c.args.classes.now = omega arith in
    let s : IsValuing c.args.classes.now (constants_at c.args.nodes.now c.args.least.now) (length c.args.classes.now) c.loop-node.placed.items c.loop-node.nulls.items c.loop-node.values.places.items c.loop-node.values.different.items = rw n at c.loop-node.invariant in
    valued_placed c.args.classes.now (constants_at c.args.nodes.now c.args.least.now) c.loop-node.placed.items c.loop-node.nulls.items c.loop-node.values.places.items c.loop-node.values.different.items s

pub returns-clause-labels : goal.returns-clause-labels
returns-clause-labels c =
    let n : c.loop-node.node ≡ length c.args.classes.now = omega arith in
    let s : IsValuing c.args.classes.now (constants_at c.args.nodes.now c.args.least.now) (length c.args.classes.now) c.loop-node.placed.items c.loop-node.nulls.items c.loop-node.values.places.items c.loop-node.values.different.items = rw n at c.loop-node.invariant in
    valued_labels c.args.classes.now (constants_at c.args.nodes.now c.args.least.now) c.loop-node.placed.items c.loop-node.nulls.items c.loop-node.values.places.items c.loop-node.values.different.items s

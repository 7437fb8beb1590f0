use Rattle.std.proofs.Common.{ℕ, ◌≤◌, length, arith}
use Rattle.cq_tables.specs.Content.{Content, made_of}
use Rattle.cq_check.proofs.Listed.{row_none, row_added, row_has}
use Rattle.cq_check.proofs.Observed.{place_within, observed_at}
use Rattle.cq_check.proofs.Sides.{observed_left, observed_right}
use Rattle.cq_theory.specs.SchemaData.{SchemaData as Schema}
use Rattle.cq_check.proofs.equations.push_row.Goals as goal

pub loop-place-init : goal.loop-place-init
loop-place-init c = row_none c.args.schema.now c.args.tables.now c.args.row c.args.places.now c.args.list.now

pub equation_at-equation-requires : goal.equation_at-equation-requires
equation_at-equation-requires c =
    record { within = place_within c.args.schema.now c.args.tables.now c.args.row c.args.places.now c.requires.places c.loop-place.place-index c.loop-place-test.true }

pub push_equation-requires-clause-left : goal.push_equation-requires-clause-left
push_equation-requires-clause-left c =
    let S : Schema = c.args.schema.now in
    let m : Content = c.args.tables.now in
    let count : ℕ = length c.loop-place.list.nodes in
    let o = observed_at S m c.args.row c.args.places.now c.requires.places c.loop-place.place-index c.loop-place-test.true c.equation_at-equation.result.now c.equation_at-equation.ensures in
    let enough : made_of m ≤ count = omega (arith, c.requires.count, c.loop-place.invariant.grows.count) in
    observed_left S c.requires.schema m c.args.row count c.requires.whole c.requires.keys c.requires.live enough _ c.equation_at-equation.result.now o.found o.entity

pub push_equation-requires-clause-right : goal.push_equation-requires-clause-right
push_equation-requires-clause-right c =
    let S : Schema = c.args.schema.now in
    let m : Content = c.args.tables.now in
    let count : ℕ = length c.loop-place.list.nodes in
    let o = observed_at S m c.args.row c.args.places.now c.requires.places c.loop-place.place-index c.loop-place-test.true c.equation_at-equation.result.now c.equation_at-equation.ensures in
    let enough : made_of m ≤ count = omega (arith, c.requires.count, c.loop-place.invariant.grows.count) in
    observed_right S c.requires.schema m c.args.row count c.requires.whole c.requires.keys c.requires.live enough _ c.equation_at-equation.result.now o.found o.entity

pub loop-place-preserved : goal.loop-place-preserved
loop-place-preserved c =
    let S : Schema = c.args.schema.now in
    let m : Content = c.args.tables.now in
    let o = observed_at S m c.args.row c.args.places.now c.requires.places c.loop-place.place-index c.loop-place-test.true c.equation_at-equation.result.now c.equation_at-equation.ensures in
    row_added S m c.requires.schema c.args.row c.args.places.now c.args.list.now c.loop-place.list c.push_equation.new.list c.loop-place.place-index _ c.equation_at-equation.result.now
    c.requires.live o.at o.found o.entity c.in_ok-push_equation.ensures c.loop-place.invariant

pub returns-clause-grows : goal.returns-clause-grows
returns-clause-grows c = c.loop-place.invariant.grows

pub returns-clause-sound : goal.returns-clause-sound
returns-clause-sound c = c.loop-place.invariant.sound

pub returns-clause-has : goal.returns-clause-has
returns-clause-has c = row_has c.args.schema.now c.args.tables.now c.args.row c.args.places.now c.args.list.now c.loop-place.list c.loop-place.place-index c.requires.places (omega (arith, c.loop-place-test.false)) c.loop-place.invariant

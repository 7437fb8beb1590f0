use Rattle.std.proofs.Common.{List, ◌≡◌, false, replicate, ap, sym, length, arith, subst, ◌∙◌}
use Rattle.std.specs.Prelude.{slice_index}
use Rattle.cq_tables.specs.Content.{made_of}
use Rattle.cq_growth.specs.declared.levels.Member.{Member}
use Rattle.cq_growth.specs.Levels.{HasBegun}
use Rattle.cq_growth.proofs.Beginnings.{begun_none, begun_other, begun_more, sort_is, sort_not}
use Rattle.cq_growth.proofs.levels.begin.Goals as goal

pub loop-number-init : goal.loop-number-init
loop-number-init c =
    let none : c.in_ok-reached.reached.items ≡ replicate (made_of c.args.tables.now) false = c.in_ok-reached.ensures ∙ ap (λ n. replicate n false) c.made.ensures in
    subst (λ (members : List Member). HasBegun c.args.presentation.now c.args.tables.now c.args.entries.now 0 members c.in_ok-reached.reached.items) (sym c.new.ensures.items)
    (begun_none c.args.presentation.now c.args.tables.now c.args.entries.now c.in_ok-reached.reached.items none)

pub loop-number-preserved-in_default : goal.loop-number-preserved-in_default
loop-number-preserved-in_default c =
    let sort = sort_not c.as_slice-generator-items.result.now c.args.presentation.now.generators c.loop-number.number c.generator-item.result c.as_slice-generator-items.ensures c.loop-number-test.true c.generator-item.is c.in_default.not-Entity in
    begun_other c.args.presentation.now c.args.tables.now c.args.entries.now c.loop-number.number _ _ sort c.loop-number.invariant

pub reach_generator-requires : goal.reach_generator-requires
reach_generator-requires c =
    let sort = sort_is c.as_slice-generator-items.result.now c.args.presentation.now.generators c.loop-number.number c.in-Entity._entity c.generator-item.result c.as_slice-generator-items.ensures c.loop-number-test.true c.generator-item.is c.in-Entity.is in
    let row = slice_index c.args.entries.now c.loop-number.number in
    let made = c.requires.whole.made row (c.requires.entries.entity c.loop-number.number c.in-Entity._entity sort).0 in
    omega (arith, made, c.loop-number.invariant.marks)

pub loop-number-preserved : goal.loop-number-preserved
loop-number-preserved c =
    let sort = sort_is c.as_slice-generator-items.result.now c.args.presentation.now.generators c.loop-number.number c.in-Entity._entity c.generator-item.result c.as_slice-generator-items.ensures c.loop-number-test.true c.generator-item.is c.in-Entity.is in
    let row = slice_index c.args.entries.now c.loop-number.number in
    let made = c.requires.whole.made row (c.requires.entries.entity c.loop-number.number c.in-Entity._entity sort).0 in
    begun_more c.args.presentation.now c.args.tables.now c.args.entries.now c.loop-number.number c.in-Entity._entity _ _ _ _ sort (omega (arith, made, c.loop-number.invariant.marks)) c.in_ok-reach_generator.ensures c.loop-number.invariant

pub returns : goal.returns
returns c =
    let count : c.loop-number.number ≡ length c.args.presentation.now.generators = omega (arith, ap length c.as_slice-generator-items.ensures, c.loop-number-test.false, c.loop-number.auto.number-end) in
    subst (λ n. HasBegun c.args.presentation.now c.args.tables.now c.args.entries.now n c.loop-number.level.members.items c.loop-number.level.reached.items) count c.loop-number.invariant

use Rattle.std.proofs.Common.{◌≡◌, ◌∙◌, ap, subst, length, arith}
use Rattle.std.specs.Prelude.{slice_index}
use Rattle.cq_instance.specs.TermOrder.{generator_term}
use Rattle.cq_names.specs.Walking.{IsWalked}
use Rattle.cq_names.proofs.Walked.{IsWalked-generator, IsWalked-other}
use Rattle.cq_names.proofs.Expanding.{meets_marks, begun, begun_marks, generator_is, generator_not}
use Rattle.cq_names.proofs.walk.begin.Goals as goal

pub loop-number-init : goal.loop-number-init
loop-number-init c = record {
  marks = begun_marks c.in_ok-walk.walk c.made.result _ c.in_ok-walk.ensures c.made.ensures;
  walked = λ S keys. begun S c.args.presentation.now c.args.tables.now c.args.entries.now c.in_ok-walk.walk c.made.result c.in_ok-walk.ensures c.made.ensures;
}

pub loop-number-preserved-in_default : goal.loop-number-preserved-in_default
loop-number-preserved-in_default c =
    let sort = generator_not c.as_slice-generator-items.result.now c.args.presentation.now.generators c.loop-number.number c.generator-item.result c.as_slice-generator-items.ensures c.loop-number-test.true c.generator-item.is c.in_default.not-Entity in
    record {
      marks = c.loop-number.invariant.marks;
      walked = λ S keys. IsWalked-other S c.args.presentation.now c.args.tables.now c.args.entries.now c.requires.whole keys c.loop-number.walk c.loop-number.number (c.loop-number.invariant.walked S keys) sort;
    }

pub meet_generator-requires : goal.meet_generator-requires
meet_generator-requires c =
    let sort = generator_is c.as_slice-generator-items.result.now c.args.presentation.now.generators c.loop-number.number c.in-Entity._entity c.generator-item.result c.as_slice-generator-items.ensures c.loop-number-test.true c.generator-item.is c.in-Entity.is in
    let row = slice_index c.args.entries.now c.loop-number.number in
    let made = c.requires.whole.made row (c.requires.entries.entity c.loop-number.number c.in-Entity._entity sort).0 in
    omega (arith, made, c.loop-number.invariant.marks)

pub loop-number-preserved : goal.loop-number-preserved
loop-number-preserved c =
    let sort = generator_is c.as_slice-generator-items.result.now c.args.presentation.now.generators c.loop-number.number c.in-Entity._entity c.generator-item.result c.as_slice-generator-items.ensures c.loop-number-test.true c.generator-item.is c.in-Entity.is in
    record {
      marks = meets_marks c.loop-number.walk c.meet_generator.new.self (slice_index c.args.entries.now c.loop-number.number) (generator_term c.loop-number.number) c.in_ok-meet_generator.ensures ∙ c.loop-number.invariant.marks;
      walked = λ S keys. IsWalked-generator S c.args.presentation.now c.args.tables.now c.args.entries.now c.requires.whole keys c.loop-number.walk c.meet_generator.new.self c.loop-number.number c.in-Entity._entity c.requires.entries
          (c.loop-number.invariant.walked S keys) sort c.in_ok-meet_generator.ensures;
    }

pub returns : goal.returns
returns c = λ S keys.
    let count : c.loop-number.number ≡ length c.args.presentation.now.generators = omega (arith, ap length c.as_slice-generator-items.ensures) in
    subst (λ n. IsWalked S c.args.presentation.now c.args.tables.now c.args.entries.now c.loop-number.walk n 0 0) count (c.loop-number.invariant.walked S keys)

use Rattle.std.proofs.Common.{[], ◌∷◌, length, ap, arith, length-append}
use Rattle.std.proofs.lemmas.Result.{err_from_is_err_and}
use Rattle.cq_transform.proofs.Checked.{all_given, more_given, not_given}
use Rattle.cq_transform.proofs.images.check_given.Goals as goal

pub add_given-requires : goal.add_given-requires
add_given-requires c = omega (arith, c.loop-generator.invariant.count, c.requires)

pub loop-generator-preserved : goal.loop-generator-preserved
loop-generator-preserved c = record {
  count = omega (arith, ap length c.in_ok-add_given.ensures.accepted.1, length-append c.loop-generator.earlier (c.generator-item.result.0 ∷ []), c.loop-generator.invariant.count);
  rest = more_given c.args.given.now c.args.generators.now c.loop-generator.generator-index c.generator-item.result c.loop-generator-test.true c.generator-item.is c.loop-generator.earlier
      c.loop-generator.invariant.rest c.add_given.new.earlier c.in_ok-add_given.ensures.accepted.0 c.in_ok-add_given.ensures.accepted.1;
}

pub returns-in_err-add_given-clause-refused : goal.returns-in_err-add_given-clause-refused
returns-in_err-add_given-clause-refused c =
    let p = err_from_is_err_and c.from_residual.result c.from_residual.ensures.1 in
    rw (p.1, p.2)
    (not_given c.args.given.now c.args.generators.now c.loop-generator.generator-index c.generator-item.result c.loop-generator-test.true c.generator-item.is c.loop-generator.earlier
    c.loop-generator.invariant.rest c.in_err-add_given.field-0.0 c.in_err-add_given.ensures.refused)

pub returns-clause-accepted : goal.returns-clause-accepted
returns-clause-accepted c =
    all_given c.args.given.now c.args.generators.now c.loop-generator.generator-index c.loop-generator.earlier (omega arith) c.loop-generator.invariant.rest

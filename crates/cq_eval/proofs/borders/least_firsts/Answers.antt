use Rattle.std.proofs.Common.{◌≡◌, ◌≤◌, ◌+◌, min, length, ap, subst, ◌∙◌, arith}
use Rattle.std.specs.Prelude.{slice_index}
use Rattle.std.proofs.lemmas.List.{length-replicate}
use Rattle.std.proofs.lemmas.Option.{slice_get_within}
use Rattle.cq_eval.specs.Border.{first_variable}
use Rattle.cq_eval.specs.Testing.{stage}
use Rattle.cq_eval.proofs.Firsts.{first_more}
use Rattle.cq_eval.proofs.borders.least_firsts.Goals as goal

pub loop-test-init : goal.loop-test-init
loop-test-init c = record {
  long = ap length c.in_ok-firsts.ensures ∙ length-replicate (c.args.width + 1) c.args.width;
  firsts = λ n e less at. absurd (omega (arith, less));
}

pub lower-requires : goal.lower-requires
lower-requires c = omega (arith, c.loop-test.invariant.long, c.min.ensures)

pub loop-test-preserved : goal.loop-test-preserved
loop-test-preserved c =
    let at : c.min.result ≡ stage c.args.width c.test-item.result = c.min.ensures ∙ ap (min c.args.width) c.reach.ensures in
    let here : slice_index c.lower.new.numbers.items (stage c.args.width c.test-item.result) ≤ c.first_variable.result =
    subst (λ p. slice_index c.lower.new.numbers.items p ≤ c.first_variable.result) at c.lower.ensures.here in
    record {
      long = c.lower.ensures.long ∙ c.loop-test.invariant.long;
      firsts = first_more c.args.width c.args.tests.now c.loop-test.test-index c.test-item.result c.loop-test.firsts.items c.lower.new.numbers.items c.loop-test.invariant.firsts c.loop-test-test.true c.test-item.is
          c.lower.ensures.falls (subst (λ m. slice_index c.lower.new.numbers.items (stage c.args.width c.test-item.result) ≤ m) c.first_variable.ensures here);
    }

pub returns : goal.returns
returns c = record {
  long = c.loop-test.invariant.long;
  first = λ n e at. c.loop-test.invariant.firsts n e (let inside = slice_get_within c.args.tests.now n e at in omega (arith, inside, c.loop-test-test.false)) at;
}

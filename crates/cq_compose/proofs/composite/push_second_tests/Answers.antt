use Rattle.std.proofs.Common.{List, ◌++◌, refl, ap, ◌∙◌}
use Rattle.cq_theory.specs.declared.presentation.Equation.{Equation}
use Rattle.cq_query.proofs.Lists.{pushed_more}
use Rattle.cq_compose.specs.Composite.{translated_test}
use Rattle.cq_compose.proofs.composite.push_second_tests.Goals as goal

pub loop-test-preserved : goal.loop-test-preserved
loop-test-preserved c =
    let f : Equation → List Equation = translated_test c.args.frame.now.first.now c.args.frame.now.second.now c.args.frame.now.entity in
    pushed_more f c.args.made.now.items c.loop-test.made.items _ c.args.tests.now c.args.tests.now c.loop-test.test-index c.test-item.result refl c.loop-test-test.true c.loop-test.invariant
    (c.in_ok-push_translated_test.ensures ∙ ap (λ y. c.loop-test.made.items ++ f y) c.test-item.is)

use Rattle.std.proofs.Common.{List, [], ◌++◌, refl, ap, ◌∙◌}
use Rattle.cq_theory.specs.declared.term.EntTerm.{EntTerm}
use Rattle.cq_query.proofs.Lists.{pushed_more}
use Rattle.cq_compose.specs.Frame.{terms_of}
use Rattle.cq_compose.proofs.terms.all_components.Goals as goal

pub loop-term-preserved : goal.loop-term-preserved
loop-term-preserved c =
    let f : EntTerm → List EntTerm = terms_of c.args.frame.now in
    pushed_more f [] c.loop-term.made.items _ c.args.terms.now c.args.terms.now c.loop-term.term-index c.term-item.result refl c.loop-term-test.true c.loop-term.invariant
    (c.in_ok-push_components.ensures ∙ ap (λ t. c.loop-term.made.items ++ f t) c.term-item.is)

use Rattle.std.proofs.Common.{ℕ, List, [], ◌++◌, map, refl, ap, ◌∙◌}
use Rattle.cq_base.specs.declared.name.Name.{Name}
use Rattle.cq_query.specs.Translation.{variables_at}
use Rattle.cq_query.proofs.Lists.{pushed_more}
use Rattle.cq_compose.proofs.composite.find_entities.Goals as goal

pub loop-var-preserved : goal.loop-var-preserved
loop-var-preserved c =
    let f : Name × ℕ → List ℕ = λ y. map (λ (v : Name × ℕ). v.1) (variables_at c.args.first.now y.1) in
    pushed_more f [] c.loop-var.made.items _ c.args.vars.now c.args.vars.now c.loop-var.var-index c.var-item.result refl c.loop-var-test.true c.loop-var.invariant
    (c.in_ok-push_entities.ensures ∙ ap (λ y. c.loop-var.made.items ++ f y) c.var-item.is)

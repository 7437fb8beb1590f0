use Rattle.std.proofs.Common.{ℕ, List, IfOk, ◌≡◌, sym, ap, subst, ◌∙◌}
use Rattle.cq_query.specs.QueryData.{QueryData as Query}
use Rattle.cq_lazy.specs.declared.plan.Plan.{Plan}
use Rattle.cq_lazy.specs.Plan.{query_of}
use Rattle.cq_lazy.specs.Widths.{weighed}
use Rattle.cq_lazy.proofs.Counts.{weighed_twice}
use Rattle.cq_lazy.proofs.widths.+weigh.Goals as goal

pub returns-in_ok-inner-in-Composite : goal.returns-in_ok-inner-in-Composite
returns-in_ok-inner-in-Composite t c =
    let Q : Query = query_of c.in-Composite.first.value in
    let W : Query = query_of c.in-Composite.second.value in
    let weights : List ℕ = c.args.weights.now in
    let inner : c.as_slice.result.now ≡ weighed Q weights = c.as_slice.ensures.value ∙ c.in_ok-inner-in-Composite.ensures ∙ ap (λ (p : Plan). weighed (query_of p) weights) c.deref-in-Composite.ensures in
    subst (λ (l : List ℕ). IfOk c.weigh-in-Composite.result (λ made. made.items ≡ l))
    ((λ i. weighed (query_of (c.deref-in-Composite-2.ensures i)) (inner i)) ∙ weighed_twice Q W weights ∙ ap (λ (p : Plan). weighed (query_of p) weights) (sym c.in-Composite.is))
    c.weigh-in-Composite.ensures

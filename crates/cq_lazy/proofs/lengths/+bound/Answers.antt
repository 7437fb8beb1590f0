use Rattle.std.proofs.Common.{◌≡◌, sym, ap, ◌∙◌}
use Rattle.cq_query.specs.QueryData.{QueryData as Query}
use Rattle.cq_lazy.specs.Plan.{query_of}
use Rattle.cq_compose.specs.Composite.{composite}
use Rattle.cq_lazy.proofs.Lengthening.{bounded_twice}
use Rattle.cq_lazy.proofs.lengths.+bound.Goals as goal

pub returns-in_ok-inner-in-Composite : goal.returns-in_ok-inner-in-Composite
returns-in_ok-inner-in-Composite t c =
    let Q : Query = query_of c.deref-in-Composite.result.now in
    let W : Query = query_of c.deref-in-Composite-2.result.now in
    let whole : composite Q W ≡ query_of c.args.plan.now =
    (λ i. composite (query_of (c.deref-in-Composite.ensures i)) (query_of (c.deref-in-Composite-2.ensures i))) ∙ ap query_of (sym c.in-Composite.is) in
    bounded_twice c.bound-in-Composite.result c.args.under.now c.in_ok-inner-in-Composite.inner Q W (query_of c.args.plan.now) whole c.in_ok-inner-in-Composite.ensures.0 c.in_ok-inner-in-Composite.ensures.1 c.bound-in-Composite.ensures

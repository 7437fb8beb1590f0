use Rattle.std.proofs.Common.{◌≡◌, ap, ◌∙◌}
use Rattle.cq_query.specs.QueryData.{QueryData as Query}
use Rattle.cq_compose.specs.Composite.{composite}
use Rattle.cq_lazy.specs.declared.lengths.Lengths.{Lengths}
use Rattle.cq_lazy.specs.Plan.{query_of}
use Rattle.cq_lazy.specs.Lengths.{AreLengths, plain}
use Rattle.cq_lazy.proofs.Lengthening.{at_some, bounded_next}
use Rattle.cq_lazy.proofs.lazy_query.bound_both.Goals as goal

pub returns : goal.returns
returns c =
    let Q : Query = query_of c.first.inside.plan.value in
    let W : Query = query_of c.deref.result.now in
    let whole : composite Q W ≡ composite c.args.first.now c.args.second.now = λ i. composite (c.first.view_is i) ((ap query_of c.deref.ensures ∙ c.second.view_is) i) in
    bounded_next c.bound.result plain c.in_ok-under.under Q W (composite c.args.first.now c.args.second.now) whole
    (at_some c.first.inside.lengths c.in_ok-under.under (λ (n : Lengths). AreLengths plain Q n) c.in_ok-under.was c.first.invariant.bounded) c.bound.ensures

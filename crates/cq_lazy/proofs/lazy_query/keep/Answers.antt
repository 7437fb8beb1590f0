use Rattle.std.proofs.Common.{false, ◌≡◌, sym, ap, subst, ◌∙◌}
use Rattle.cq_query.specs.QueryData.{QueryData as Query}
use Rattle.cq_query.specs.IsQuery.{IsQuery}
use Rattle.cq_compose.specs.Composite.{composite, is_large}
use Rattle.cq_compose.proofs.Composed.{composite_is_query}
use Rattle.cq_lazy.specs.Plan.{IsPlan, query_of}
use Rattle.cq_lazy.specs.Lengths.{AreLengths, plain}
use Rattle.cq_lazy.specs.Widths.{widths_of}
use Rattle.cq_lazy.proofs.lazy_query.keep.Goals as goal

pub invariant_of-result : goal.invariant_of-result
invariant_of-result c =
    let Q : Query = c.args.first.now in
    let W : Query = c.args.second.now in
    let before : query_of c.in_ok-before.before.value ≡ Q = ap query_of c.in_ok-before.ensures.cases ∙ c.first.view_is in
    let after : query_of c.in_ok-after.after.value ≡ W = ap query_of c.in_ok-after.ensures.cases ∙ c.second.view_is in
    let whole : query_of c.in_ok-plan.plan.value ≡ composite Q W = ap query_of c.in_ok-plan.ensures.ok ∙ (λ i. composite (before i) (after i)) in
    record {
      made = subst IsPlan (sym c.in_ok-plan.ensures.ok) (
        subst IsPlan (sym c.in_ok-before.ensures.cases) c.first.invariant.made,
        subst IsPlan (sym c.in_ok-after.ensures.cases) c.second.invariant.made,
        ap (λ (q : Query). q.source) after ∙ c.requires.fits ∙ sym (ap (λ (q : Query). q.target) before),
        (λ i. is_large (composite (before i) (after i))) ∙ c.requires.small,
      );
      sorted = subst IsQuery (sym whole) (composite_is_query Q W (subst IsQuery c.first.view_is c.first.invariant.sorted) (subst IsQuery c.second.view_is c.second.invariant.sorted) (sym c.requires.fits) c.requires.small);
      counted = c.from_vec.ensures ∙ c.requires.widths ∙ ap widths_of (sym whole);
      bounded = subst (λ (q : Query). AreLengths plain q c.args.lengths) (sym whole) c.requires.lengths;
    }

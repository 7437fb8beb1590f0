use Rattle.std.proofs.Common.{◌<◌, length, sym, ap, subst, ◌∙◌}
use Rattle.cq_query.specs.QueryData.{QueryData}
use Rattle.cq_theory.specs.Groups.{positions}
use Rattle.cq_query.specs.Translation.{attribute_sources}
use Rattle.cq_theory.proofs.Grouped.{group_within, group_read}
use Rattle.cq_query.proofs.query.Query.attributes_from.Goals as goal

pub of-requires : goal.of-requires
of-requires c = group_within _ _ c.args.entity _ c.self.invariant.1.attributes (subst (λ (q : QueryData). c.args.entity < length q.target.entities) (sym c.self.view_is) c.requires)

pub returns : goal.returns
returns c =
    group_read _ _ c.args.entity _ c.self.invariant.1.attributes (subst (λ (q : QueryData). c.args.entity < length q.target.entities) (sym c.self.view_is) c.requires) _ c.of.ensures
    ∙ ap (λ (q : QueryData). positions (attribute_sources q) c.args.entity) c.self.view_is

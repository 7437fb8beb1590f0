use Rattle.std.proofs.Common.{◌<◌, length, sym, ap, subst, ◌∙◌}
use Rattle.cq_query.specs.QueryData.{QueryData}
use Rattle.cq_theory.specs.Groups.{positions}
use Rattle.cq_query.specs.Translation.{key_sources}
use Rattle.cq_theory.proofs.Grouped.{group_within, group_read}
use Rattle.cq_query.proofs.query.Query.keys_from.Goals as goal

pub of-requires : goal.of-requires
of-requires c = group_within _ _ c.args.entity _ c.self.invariant.1.keys (subst (λ (q : QueryData). c.args.entity < length q.target.entities) (sym c.self.view_is) c.requires)

pub returns : goal.returns
returns c =
    group_read _ _ c.args.entity _ c.self.invariant.1.keys (subst (λ (q : QueryData). c.args.entity < length q.target.entities) (sym c.self.view_is) c.requires) _ c.of.ensures
    ∙ ap (λ (q : QueryData). positions (key_sources q) c.args.entity) c.self.view_is

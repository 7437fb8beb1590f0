use Rattle.std.proofs.Common.{sym, ap, subst, ◌∙◌}
use Rattle.cq_query.specs.QueryData.{QueryData}
use Rattle.cq_query.specs.Duties.{Sound}
use Rattle.cq_program.proofs.queries.meaning.share_query.Goals as goal

pub share_lazy-requires : goal.share_lazy-requires
share_lazy-requires c = subst (λ (Q : QueryData). Sound Q) (sym (c.in_ok-lazy.ensures ∙ c.in_ok-query.ensures.ok)) c.requires

use Rattle.std.proofs.Common.{sym, subst}
use Rattle.cq_query.specs.QueryData.{QueryData}
use Rattle.cq_query.specs.Duties.{Sound}
use Rattle.cq_program.proofs.queries.meaning.share_lazy.Goals as goal

pub returns-clause-modelled : goal.returns-clause-modelled
returns-clause-modelled c = subst (λ (Q : QueryData). Sound Q) (sym c.in_ok-shared.ensures.ok) c.requires

use Rattle.std.proofs.Common.{sym, subst}
use Rattle.cq_query.specs.Coeval.{coeval_of}
use Rattle.cq_query.specs.QueryData.{QueryData as Query}
use Rattle.cq_theory.specs.Tables.{Tables, IsWellFormed}
use Rattle.cq_model.specs.Moving.{Presents}
use Rattle.cq_model.proofs.Presenting.{presents_of}
use Rattle.cq_coeval.proofs.gluing.present_coeval.Goals as goal

pub coeval_presentation-requires : goal.coeval_presentation-requires
coeval_presentation-requires c =
    subst (λ S. IsWellFormed S (record { sheet = c.sheet.result.now; algebra = c.algebra.result.now })) c.requires
    (subst (IsWellFormed c.args.instance.now.schema) (λ i. record { sheet = sym c.sheet.ensures.sheet i; algebra = sym c.algebra.ensures.algebra i }) c.is_instance.ensures.well_formed)

pub returns-clause-presents : goal.returns-clause-presents
returns-clause-presents c =
    let Q : Query = c.args.query.now in
    let call = c.coeval_presentation.ensures in
    subst (λ (M : Tables). Presents (coeval_of Q M) c.coeval_presentation.result) (λ i. record { sheet = c.sheet.ensures.sheet i; algebra = c.algebra.ensures.algebra i })
    (presents_of (coeval_of Q (record { sheet = c.sheet.result.now; algebra = c.algebra.result.now })) c.coeval_presentation.result call.accepted call.made call.refused)

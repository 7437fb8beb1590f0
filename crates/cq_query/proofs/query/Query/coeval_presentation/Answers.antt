use Rattle.cq_query.proofs.CopiedPresentations.{presented}
use Rattle.cq_query.proofs.Copying.{refused_rows}
use Rattle.cq_query.proofs.query.Query.coeval_presentation.Goals as goal

pub returns-in-Err-clause-refused : goal.returns-in-Err-clause-refused
returns-in-Err-clause-refused c =
    refused_rows c.args.self.now (record { sheet = c.args.sheet.now; algebra = c.args.algebra.now }) c.in-Err.refusal c.as_slice.result.now c.as_slice.ensures c.in-Err.ensures.refused

pub returns-in-Ok-clause-presentation : goal.returns-in-Ok-clause-presentation
returns-in-Ok-clause-presentation c =
    presented c.args.self.now c.is_well_sorted.ensures (record { sheet = c.args.sheet.now; algebra = c.args.algebra.now }) c.requires c.coeval_from.result c.coeval_from.ensures.accepted c.coeval_from.ensures.made

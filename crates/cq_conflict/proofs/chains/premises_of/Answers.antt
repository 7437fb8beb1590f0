use Rattle.std.proofs.Common.{ℕ, List, IfOk, subst}
use Rattle.cq_conflict.specs.Told.{Leads}
use Rattle.cq_conflict.proofs.chains.premises_of.Goals as goal

pub returns : goal.returns
returns c = subst (λ (l : List ℕ). IfOk c.reversed.result (λ waiting. Leads c.args.steps.now waiting.items l)) c.as_slice-from.ensures c.reversed.ensures

use Rattle.std.proofs.Common.{[], ◌∷◌, ◌++◌}
use Rattle.cq_conflict.specs.Told.{Leads}
use Rattle.cq_conflict.proofs.chains.unchain.Given as goal

abbrev pub invariant-chain : goal.invariant-chain
invariant-chain l = Leads l.steps (l.waiting.items ++ l.here ∷ []) (l.initial.waiting.items ++ l.fn.first ∷ [])

use Rattle.std.proofs.Common.{◌≡◌, drop}
use Rattle.std.specs.Prelude.{find}
use Rattle.cq_known.specs.Spelled.{spells_from}
use Rattle.cq_known.proofs.spelled.first_token.Given as goal

abbrev pub invariant-loop-token : goal.invariant-loop-token
invariant-loop-token l = find (spells_from l.from l.names) l.tokens ≡ find (spells_from l.from l.names) (drop l.token-index l.tokens)

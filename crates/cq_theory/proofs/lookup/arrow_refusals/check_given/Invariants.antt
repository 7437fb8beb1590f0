use Rattle.std.proofs.Common.{◌≡◌, drop}
use Rattle.cq_theory.specs.ArrowRefusals.{first_missing}
use Rattle.cq_theory.proofs.lookup.arrow_refusals.check_given.Given as goal

abbrev pub invariant-loop-name : goal.invariant-loop-name
invariant-loop-name l = first_missing l.given (drop l.name-index l.names) ≡ first_missing l.given l.names

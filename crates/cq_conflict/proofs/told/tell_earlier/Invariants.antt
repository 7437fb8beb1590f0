use Rattle.cq_conflict.specs.Told.{AreTelling}
use Rattle.cq_conflict.proofs.told.tell_earlier.Given as goal

abbrev pub invariant-earlier : goal.invariant-earlier
invariant-earlier l = AreTelling l.steps l.told.items

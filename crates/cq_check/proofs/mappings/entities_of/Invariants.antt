use Rattle.std.proofs.Common.{◌≡◌, take}
use Rattle.cq_check.specs.Entities.{duty_entities}
use Rattle.cq_check.proofs.mappings.entities_of.Given as goal

abbrev pub invariant-loop-duty : goal.invariant-loop-duty
invariant-loop-duty l = l.entities.items ≡ duty_entities (take l.duty-index l.duties)

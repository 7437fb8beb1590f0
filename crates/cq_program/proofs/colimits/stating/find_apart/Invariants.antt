use Rattle.std.proofs.Common.{◌≡◌, drop}
use Rattle.cq_program.specs.Colimits.{first_apart}
use Rattle.cq_program.specs.Views.{useds_meant}
use Rattle.cq_program.proofs.colimits.stating.find_apart.Given as goal

-- those so far are over the typeside
abbrev pub invariant-loop-part : goal.invariant-loop-part
invariant-loop-part l = first_apart l.name (useds_meant l.parts) ≡ first_apart l.name (useds_meant (drop l.part-index l.parts))

use Rattle.std.proofs.Common.{◌≡◌, take}
use Rattle.std.specs.Prelude.{Ok}
use Rattle.cq_program.specs.Colimits.{parts_used}
use Rattle.cq_environment.specs.Environment.{environment_of}
use Rattle.cq_program.specs.Views.{useds_meant}
use Rattle.cq_program.proofs.colimits.stating.schemas_of.Given as goal

-- the schemas so far
abbrev pub invariant-loop-spot : goal.invariant-loop-spot
invariant-loop-spot l = parts_used (environment_of l.env.names.entries) (take l.spot-index l.used) ≡ Ok (useds_meant l.parts.items)

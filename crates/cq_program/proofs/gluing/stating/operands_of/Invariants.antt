use Rattle.std.proofs.Common.{◌≡◌, take}
use Rattle.std.specs.Prelude.{Ok}
use Rattle.cq_program.specs.Gluing.{operands_used}
use Rattle.cq_environment.specs.Environment.{environment_of}
use Rattle.cq_program.specs.Views.{operands_meant}
use Rattle.cq_program.proofs.gluing.stating.operands_of.Given as goal

-- the instances so far
abbrev pub invariant-loop-spot : goal.invariant-loop-spot
invariant-loop-spot l = operands_used (environment_of l.env.names.entries) (take l.spot-index l.used) ≡ Ok (operands_meant l.operands.items)

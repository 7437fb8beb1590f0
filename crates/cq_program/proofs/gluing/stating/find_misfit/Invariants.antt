use Rattle.std.proofs.Common.{◌≡◌, drop}
use Rattle.cq_program.specs.Gluing.{first_misfit}
use Rattle.cq_program.specs.Views.{operands_meant}
use Rattle.cq_program.proofs.gluing.stating.find_misfit.Given as goal

-- those so far are over the schema
abbrev pub invariant-loop-operand : goal.invariant-loop-operand
invariant-loop-operand l = first_misfit l.name (operands_meant l.operands) ≡ first_misfit l.name (operands_meant (drop l.operand-index l.operands))

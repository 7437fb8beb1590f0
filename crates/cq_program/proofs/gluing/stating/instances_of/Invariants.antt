use Rattle.std.proofs.Common.{◌≡◌, map}
use Rattle.cq_program.proofs.gluing.stating.instances_of.Given as goal

-- the instances so far
abbrev pub invariant-loop-operand : goal.invariant-loop-operand
invariant-loop-operand l = l.instances.items ≡ map (λ operand. operand.part.instance) l.yielded

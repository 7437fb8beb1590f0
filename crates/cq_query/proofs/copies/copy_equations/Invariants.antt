use Rattle.std.proofs.Common.{◌≡◌, take}
use Rattle.cq_query.proofs.copies.copy_equations.Given as goal

abbrev pub invariant-loop-equation : goal.invariant-loop-equation
invariant-loop-equation l = l.made.items ≡ take l.equation-index l.equations

use Rattle.std.proofs.Common.{◌≡◌, ◌++◌}
use Rattle.cq_colimit.proofs.equations.path_eqs_of.Given as goal

abbrev pub invariant-loop-equation : goal.invariant-loop-equation
invariant-loop-equation l = (l.made.items ≡ l.fn.first.items ++ l.yielded) × (l.yielded ++ l.equation-iterator.rest.items ≡ l.fn.rest)

use Rattle.std.proofs.Common.{◌≡◌, take}
use Rattle.cq_lazy.specs.Widths.{weight_of}
use Rattle.cq_lazy.proofs.widths.weigh_variables.Given as goal

abbrev pub invariant-loop-var : goal.invariant-loop-var
invariant-loop-var l = l.total ≡ weight_of l.weights (take l.var-index l.vars)

use Rattle.std.proofs.Common.{◌≡◌, ◌++◌, take, map}
use Rattle.cq_transform.specs.Shifted.{shifted_equation}
use Rattle.cq_push.proofs.shifting.push_shifted.Given as goal

abbrev pub invariant-loop-equation : goal.invariant-loop-equation
invariant-loop-equation l = l.made.items ≡ l.initial.made.items ++ map (shifted_equation l.first) (take l.equation-index l.equations)

use Rattle.std.proofs.Common.{◌≡◌, ◌++◌, map, take}
use Rattle.cq_query.specs.Puts.{put_equation}
use Rattle.cq_query.proofs.puts.push_equations.Given as goal

abbrev pub invariant-loop-equation : goal.invariant-loop-equation
invariant-loop-equation l = l.made.items ≡ l.initial.made.items ++ map (put_equation l.terms) (take l.equation-index l.equations)

use Rattle.std.proofs.Common.{◌≡◌, ◌++◌, take, map}
use Rattle.cq_colimit.specs.Joined.{path_eq_image}
use Rattle.cq_colimit.proofs.images.add_path_eqs.Given as goal

abbrev pub invariant-loop-equation : goal.invariant-loop-equation
invariant-loop-equation l = l.made.items ≡ l.fn.made.items ++ map (path_eq_image l.mapping) (take l.equation-index l.mapping.source.path_eqs)

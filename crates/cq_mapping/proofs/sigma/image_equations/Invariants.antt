use Rattle.std.proofs.Common.{◌≡◌, take, map}
use Rattle.cq_mapping.specs.Images.{equation_image}
use Rattle.cq_mapping.proofs.sigma.image_equations.Given as goal

abbrev pub invariant-loop-equation : goal.invariant-loop-equation
invariant-loop-equation l = l.made.items ≡ map (equation_image l.mapping) (take l.equation-index l.equations)

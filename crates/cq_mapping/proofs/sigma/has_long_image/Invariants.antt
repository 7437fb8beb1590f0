use Rattle.std.proofs.Common.{◌≡◌, take, map, false}
use Rattle.std.specs.List.{list_any}
use Rattle.cq_mapping.specs.Images.{equation_image}
use Rattle.cq_theory.specs.Presentation.{has_long_side}
use Rattle.cq_mapping.proofs.sigma.has_long_image.Given as goal

abbrev pub invariant-loop-equation : goal.invariant-loop-equation
invariant-loop-equation l = list_any has_long_side (map (equation_image l.mapping) (take l.equation-index l.equations)) ≡ false

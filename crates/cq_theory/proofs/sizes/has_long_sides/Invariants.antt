use Rattle.std.proofs.Common.{◌≡◌, drop}
use Rattle.std.specs.List.{list_any}
use Rattle.cq_theory.specs.Presentation.{has_long_side}
use Rattle.cq_theory.proofs.sizes.has_long_sides.Given as goal

abbrev pub invariant-loop-equation : goal.invariant-loop-equation
invariant-loop-equation l = list_any has_long_side (drop l.equation-index l.equations) ≡ list_any has_long_side l.equations

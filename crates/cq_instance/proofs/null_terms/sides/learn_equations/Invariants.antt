use Rattle.std.proofs.Common.{◌≡◌, take}
use Rattle.std.specs.List.{flat_map}
use Rattle.cq_theory.specs.Listed.{equation_nodes}
use Rattle.cq_instance.specs.Learning.{learned_from}
use Rattle.cq_instance.proofs.null_terms.sides.learn_equations.Given as goal

abbrev pub invariant-loop-equation : goal.invariant-loop-equation
invariant-loop-equation l = l.known.items ≡ learned_from l.instance l.initial.known.items
    (flat_map (equation_nodes l.instance.schema l.instance.presentation l.instance.names) (take l.equation-index l.instance.presentation.equations))

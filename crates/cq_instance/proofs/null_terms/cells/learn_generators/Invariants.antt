use Rattle.std.proofs.Common.{◌≡◌, take}
use Rattle.std.specs.List.{filter_map, enumerate_from}
use Rattle.cq_theory.specs.Listed.{generator_node}
use Rattle.cq_instance.specs.Learning.{learned_from}
use Rattle.cq_instance.proofs.null_terms.cells.learn_generators.Given as goal

abbrev pub invariant-loop-number : goal.invariant-loop-number
invariant-loop-number l = l.known.items ≡ learned_from l.instance l.initial.known.items
    (filter_map (generator_node l.instance.schema l.instance.presentation l.instance.names) (enumerate_from 0 (take l.number l.instance.presentation.generators)))

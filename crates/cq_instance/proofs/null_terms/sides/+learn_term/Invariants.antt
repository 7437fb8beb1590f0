use Rattle.std.proofs.Common.{◌≡◌, map, take}
use Rattle.std.specs.Prelude.{option_copied}
use Rattle.std.specs.List.{flat_map}
use Rattle.cq_theory.specs.Tables.{value_of}
use Rattle.cq_instance.specs.Learning.{learned_from, nodes_in}
use Rattle.cq_instance.specs.Standing.{meaning}
use Rattle.cq_instance.proofs.null_terms.sides.+learn_term.Given as goal

abbrev pub decreases-learn_term : goal.decreases-learn_term
decreases-learn_term l = goal.size-learn_term l

abbrev pub invariant-loop-arg : goal.invariant-loop-arg
invariant-loop-arg l =
    (l.values.items ≡ map (value_of l.site.instance.now.tables (map meaning l.site.standings.now)) (take l.arg-index l.arg-items))
    × (l.known.items ≡ learned_from l.site.instance.now l.initial.known.items (flat_map (nodes_in (option_copied l.site.name)) (take l.arg-index l.arg-items)))

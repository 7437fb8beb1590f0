use Rattle.std.proofs.Common.{◌≡◌, take}
use Rattle.std.specs.List.{flat_map}
use Rattle.cq_instance.specs.InstanceData.{name_at}
use Rattle.cq_instance.specs.Learning.{learned_from, observed}
use Rattle.cq_instance.proofs.FoundEquations.{found_at}
use Rattle.cq_instance.proofs.null_terms.sides.learn_row.Given as goal

abbrev pub invariant-loop-number : goal.invariant-loop-number
invariant-loop-number l = l.known.items ≡ learned_from l.instance l.initial.known.items
    (flat_map (observed (name_at l.instance.names l.entity l.row)) (found_at l.instance.schema.obs_eqs (take l.number-index l.numbers)))

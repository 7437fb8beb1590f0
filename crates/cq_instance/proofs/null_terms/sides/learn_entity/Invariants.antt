use Rattle.std.proofs.Common.{◌≡◌, ◌==◌, filter}
use Rattle.std.specs.List.{flat_map}
use Rattle.cq_theory.specs.Canonical.{below}
use Rattle.cq_instance.specs.InstanceData.{name_at}
use Rattle.cq_instance.specs.Learning.{learned_from, observed}
use Rattle.cq_instance.proofs.null_terms.sides.learn_entity.Given as goal

abbrev pub invariant-loop-row : goal.invariant-loop-row
invariant-loop-row l = l.known.items ≡ learned_from l.instance l.initial.known.items
    (flat_map (λ row. flat_map (observed (name_at l.instance.names l.entity row)) (filter (λ e. e.entity == l.entity) l.instance.schema.obs_eqs)) (below l.row))

use Rattle.std.proofs.Common.{ℕ, ◌≡◌, map}
use Rattle.std.specs.List.{flat_map}
use Rattle.cq_theory.specs.declared.schema.Edge.{Edge}
use Rattle.cq_theory.specs.declared.term.TypeTerm.TheVariants.{Att}
use Rattle.cq_theory.specs.Canonical.{below, edges_from}
use Rattle.cq_instance.specs.InstanceData.{name_at}
use Rattle.cq_instance.specs.Learning.{learned_from}
use Rattle.cq_instance.proofs.null_terms.cells.learn_entity.Given as goal

abbrev pub invariant-loop-row : goal.invariant-loop-row
invariant-loop-row l = l.known.items ≡ learned_from l.instance l.initial.known.items
    (flat_map (λ row. map (λ (a : ℕ × Edge). Att a.0 (name_at l.instance.names l.entity row)) (edges_from l.entity l.instance.schema.attributes)) (below l.row))

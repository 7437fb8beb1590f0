use Rattle.std.proofs.Common.{◌≡◌, map}
use Rattle.cq_theory.specs.Canonical.{below}
use Rattle.cq_query.specs.Coeval.{start_of}
use Rattle.cq_adjoint.proofs.layout.find_layout.Given as goal

abbrev pub invariant-loop-entity : goal.invariant-loop-entity
invariant-loop-entity l =
    (l.starts.items ≡ map (start_of l.query l.counts) (below l.entity))
    × (l.total ≡ start_of l.query l.counts l.entity)

use Rattle.std.proofs.Common.{◌≡◌, drop}
use Rattle.cq_theory.specs.Schema.{edge_names}
use Rattle.cq_theory.specs.ArrowRefusals.{first_missing}
use Rattle.cq_mapping.proofs.blocks.check_edges.Given as goal

abbrev pub invariant-loop-edge : goal.invariant-loop-edge
invariant-loop-edge l = first_missing l.given (edge_names (drop l.edge-index l.edges)) ≡ first_missing l.given (edge_names l.edges)

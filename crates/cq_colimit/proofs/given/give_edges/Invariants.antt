use Rattle.std.proofs.Common.{◌≡◌, ◌++◌, take}
use Rattle.cq_theory.specs.Schema.{edge_names}
use Rattle.cq_colimit.specs.Clashes.{given_by}
use Rattle.cq_colimit.proofs.given.give_edges.Given as goal

abbrev pub invariant-loop-edge : goal.invariant-loop-edge
invariant-loop-edge l = l.made.items ≡ l.fn.made.items ++ given_by l.part (edge_names (take l.edge-index l.edges))

use Rattle.std.proofs.Common.{◌≡◌, take}
use Rattle.cq_theory.specs.Groups.{edge_sources}
use Rattle.cq_theory.proofs.beginnings.edge_sources.Given as goal

abbrev pub invariant-loop-edge : goal.invariant-loop-edge
invariant-loop-edge l = l.sources.items ≡ edge_sources (take l.edge-index l.edges)

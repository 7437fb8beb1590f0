use Rattle.std.proofs.Common.{◌≡◌, ◌++◌, replicate}
use Rattle.cq_flat.specs.declared.node.Node.TheVariants.{Leaf}
use Rattle.cq_check.proofs.nodes.NodeList.push_leaves.Given as goal

abbrev pub invariant-loop-place : goal.invariant-loop-place
invariant-loop-place l = (l.self-inside.nodes.items ≡ l.initial.self-inside.nodes.items ++ replicate l._place Leaf) × (l.self-inside.equations.items ≡ l.initial.self-inside.equations.items)

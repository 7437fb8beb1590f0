-- What contracts see of a list of nodes.
use Rattle.std.specs.Prelude.{ℕ, List}
use Rattle.cq_flat.specs.declared.node.Node.{Node}

-- nodes, and equations between nodes
pub record NodeListData : Type 0 where
  pub nodes : List Node
  pub equations : List (ℕ × ℕ)

-- What contracts see of a list of nodes.
use Rattle.std.specs.Prelude.{ℕ, List}
use Rattle.cq_flat.specs.declared.node.Node.{Node}

-- nodes with their types, and equations between nodes
pub record NodeListData : Type 0 where
  pub nodes : List Node
  pub types : List ℕ
  pub equations : List (ℕ × ℕ)

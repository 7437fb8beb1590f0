-- Lists of nodes whose numbers name nodes.
use Rattle.std.specs.Prelude.{◌≡◌, ℕ, ◌<◌, List, length, Some, slice_get, All}
use Rattle.cq_flat.specs.declared.node.Node.{Node}
use Rattle.cq_flat.specs.declared.node.Node.TheVariants.{Leaf, Const, Fun}

-- the arguments of a node are earlier nodes
abbrev pub HasEarlierArguments : List Node → Type 0
HasEarlierArguments nodes = (node f : ℕ) (args : List ℕ) → slice_get nodes node ≡ Some (Fun f args) → All (λ arg. arg < node) args

-- the sides of equations are nodes
abbrev pub AreSides : List Node → List (ℕ × ℕ) → Type 0
AreSides nodes equations = All (λ e. (e.0 < length nodes) × (e.1 < length nodes)) equations

-- the arguments of one node are below n
abbrev pub HasArgumentsBelow : ℕ → Node → Type 0
HasArgumentsBelow n Leaf = Unit {0}
HasArgumentsBelow n (Const c) = Unit {0}
HasArgumentsBelow n (Fun f args) = All (λ arg. arg < n) args

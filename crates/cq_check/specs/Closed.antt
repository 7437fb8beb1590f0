-- Answers by the values of closed nodes.
use Rattle.std.specs.Prelude.{ℕ, Bool, List, Some, ◌≡◌, ◌<◌, ◌↔◌, IsTrue, length, slice_get}
use Rattle.cq_check.specs.declared.asking.Asked.{Asked}
use Rattle.cq_check.specs.declared.asking.Asked.TheVariants.{Answered, Nodes}
use Rattle.cq_flat.specs.declared.node.Node.{Node}
use Rattle.cq_flat.specs.Values.{AreValues, value_at}
use Rattle.cq_theory.specs.declared.value.Value.{Value}

-- nodes that are asked are among the first ones
abbrev pub IsAmong : ℕ → Asked → Type 0
IsAmong count (Answered same) = Unit {0}
IsAmong count (Nodes a b) = (a < count) × (b < count)

-- the answer is known, or says whether two nodes have one value
abbrev pub IsTold : List Value → Asked → Bool → Type 0
IsTold values (Answered same) answer = answer ≡ same
IsTold values (Nodes a b) answer = IsTrue answer ↔ (value_at values a ≡ value_at values b)

pub record AreTold (values : List Value) (asked : List Asked) (answers : List Bool) : Type 0 where
  pub count : length answers ≡ length asked
  pub each : (n : ℕ) (one : Asked) (answer : Bool) → slice_get asked n ≡ Some one → slice_get answers n ≡ Some answer
      → IsTold values one answer

pub record AreCompared (nodes : List Node) (equations : List (ℕ × ℕ)) (asked : List Asked) (answers : List Bool) : Type 0 where
  pub values : List Value
  pub are_values : AreValues nodes equations values
  pub told : AreTold values asked answers

-- Values of nodes that are named by their places among the different ones.
use Rattle.std.specs.Prelude.{◌≡◌, ℕ, ◌<◌, ◌⊎◌, List, [], ◌∷◌, ◌++◌, length, map, Option, Some, None, All}
use Rattle.cq_theory.specs.declared.constant.Con.{Con}
use Rattle.cq_theory.specs.declared.value.Value.{Value}
use Rattle.cq_theory.specs.declared.value.Value.TheVariants.{Const, Null}
use Rattle.cq_flat.specs.declared.values.NodeValues.{NodeValues}
use Rattle.cq_flat.specs.Values.{value_at}

-- the values of all nodes
abbrev pub values_in : NodeValues → List Value
values_in v = map (value_at v.different.items) v.places.items

abbrev pub ArePlaced : NodeValues → Type 0
ArePlaced v = All (λ p. p < length v.different.items) v.places.items

-- the value of a class that has none: its least constant, or the next null, of which a node is the first
abbrev pub IsNewValue : Option Con → List ℕ → List ℕ → ℕ → Value → Type 0
IsNewValue least nulls nulls' node v =
    ((c : Con) × (least ≡ Some c) × (v ≡ Const c) × (nulls' ≡ nulls))
    ⊎ ((least ≡ None) × (v ≡ Null (length nulls)) × (nulls' ≡ nulls ++ node ∷ []))

-- The values of nodes, and what can be read of them.
use Rattle.std.specs.Prelude.{◌≡◌, ◌≢◌, ℕ, ◌<◌, ◌↔◌, List, length, map, Option, Some, None, nat_eq, slice_get, slice_index_or, MatchOption}
use Rattle.std.specs.List.{filter_map, range_with_len, enumerate_from}
use Rattle.cq_theory.specs.declared.constant.Con.{Con}
use Rattle.cq_theory.specs.declared.constant.Con.TheVariants.{Named}
use Rattle.cq_theory.specs.Constant.{IsLesser, IsAtMost}
use Rattle.cq_theory.specs.declared.value.Value.{Value}
use Rattle.cq_theory.specs.declared.value.Value.TheVariants as value
use Rattle.cq_theory.specs.declared.value.Entry.{Entry}
use Rattle.cq_theory.specs.Tables.{is_for, IsPlain}
use Rattle.cq_theory.specs.Listed.{firsts, null_label}
use Rattle.cq_flat.specs.declared.node.Node.{Node}
use Rattle.cq_flat.specs.declared.node.Node.TheVariants.{Leaf, Const, Fun}
use Rattle.cq_flat.specs.Congruence.{Congruent}

-- what a closure tells: the value of each node, the first node of each null, the entries of functions, and two constants that are equal
pub record Closure : Type 0 where
  pub values : List Value
  pub nulls : List ℕ
  pub entries : List Entry
  pub clash : Option (Con × Con)

module _ (nodes : List Node) (equations : List (ℕ × ℕ)) where
  -- a node is equal to a constant, and to no lesser one
  pub record HasConstant (node : ℕ) (c : Con) : Type 0 where
    pub at : ℕ
    pub is : slice_get nodes at ≡ Some (Const c)
    pub equal : Congruent nodes equations node at

  pub record IsLeastConstant (node : ℕ) (c : Con) : Type 0 where
    pub has : HasConstant node c
    pub least : (d : Con) → HasConstant node d → IsAtMost c d

  -- one value for equal nodes alone: the least constant, or a null where there is none
  pub record AreValues (values : List Value) : Type 0 where
    pub count : length values ≡ length nodes
    pub equal : (a b : ℕ) → a < length nodes → b < length nodes → (slice_get values a ≡ slice_get values b) ↔ Congruent nodes equations a b
    pub constant : (a : ℕ) (c : Con) → a < length nodes → (slice_get values a ≡ Some (value.Const c)) ↔ IsLeastConstant a c
    pub plain : (a : ℕ) (v : Value) → slice_get values a ≡ Some v → IsPlain v

  -- two constants are equal
  pub record AreEqualConstants (c d : Con) : Type 0 where
    pub left : ℕ
    pub right : ℕ
    pub left_is : slice_get nodes left ≡ Some (Const c)
    pub right_is : slice_get nodes right ≡ Some (Const d)
    pub equal : Congruent nodes equations left right

  -- the least constant that is equal to a greater one, and the least such greater one
  pub record IsLeastClash (clash : Con × Con) : Type 0 where
    pub greater : IsLesser clash.0 clash.1
    pub equal : AreEqualConstants clash.0 clash.1
    pub least : (c d : Con) → IsLesser c d → AreEqualConstants c d → IsAtMost clash.0 c
    pub next : (d : Con) → IsLesser clash.0 d → AreEqualConstants clash.0 d → IsAtMost clash.1 d

  abbrev pub IsClash : Option (Con × Con) → Type 0
  IsClash clash = MatchOption clash ((c d : Con) → AreEqualConstants c d → c ≡ d) IsLeastClash

-- the labels of nulls in order of first appearance are 0, 1, .., and with each label goes the first node that has it
pub record IsFirstNode (values : List Value) (label node : ℕ) : Type 0 where
  pub has : slice_get values node ≡ Some (value.Null label)
  pub first : (m : ℕ) → m < node → slice_get values m ≢ Some (value.Null label)

pub record AreLabels (values : List Value) (nulls : List ℕ) : Type 0 where
  pub labels : firsts nat_eq (filter_map null_label values) ≡ range_with_len 0 (length nulls)
  pub first : (label node : ℕ) → slice_get nulls label ≡ Some node → IsFirstNode values label node

-- the entries of the function nodes in order, without those for the same function and arguments as an earlier one
abbrev pub value_at : List Value → ℕ → Value
value_at values node = slice_index_or values node (value.Const (Named 0))

abbrev pub entry_of : List Value → ℕ × Node → Option Entry
entry_of values (node, Leaf) = None
entry_of values (node, Const c) = None
entry_of values (node, Fun f args) = Some (record { function = f; args = map (value_at values) args; value = value_at values node })

abbrev pub entries_of : List Node → List Value → List Entry
entries_of nodes values = firsts (λ e. is_for e.function e.args) (filter_map (entry_of values) (enumerate_from 0 nodes))

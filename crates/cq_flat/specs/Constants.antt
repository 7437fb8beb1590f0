-- The constants of classes.
use Rattle.std.specs.Prelude.{◌≡◌, ℕ, ◌<◌, ◌⊎◌, Bool, true, List, length, map, Option, Some, None, MatchOption, slice_get, slice_index}
use Rattle.std.specs.Prelude.{slice_index_or, if◌then◌else◌, ◌&&◌}
use Rattle.std.specs.Ordering.{is_gt, ordering_then}
use Rattle.cq_theory.specs.declared.constant.Con.{Con}
use Rattle.cq_theory.specs.Constant.{con_cmp, IsLesser, IsAtMost}
use Rattle.cq_flat.specs.declared.node.Node.{Node}
use Rattle.cq_flat.specs.declared.node.Node.TheVariants.{Leaf, Const, Fun}

-- the constants of some nodes, named by their numbers: none where the number is that of no constant
abbrev pub own_constant : Option Node → Option Con
own_constant None = None
own_constant (Some Leaf) = None
own_constant (Some (Const c)) = Some c
own_constant (Some (Fun f args)) = None

abbrev pub constant_at : List Node → ℕ → Option Con
constant_at nodes place = own_constant (slice_get nodes place)

abbrev pub constants_at : List Node → List ℕ → List (Option Con)
constants_at nodes places = map (constant_at nodes) places

module _ (nodes : List Node) (classes : List ℕ) where
  -- a constant of the class
  abbrev pub IsConstantOf : ℕ → Con → Type 0
  IsConstantOf class c = (node : ℕ) × (slice_get nodes node ≡ Some (Const c)) × (slice_index classes node ≡ class)

  -- the least constant of the class among the first n nodes, if there is one
  pub record IsLeastOf (n class : ℕ) (o : Option Con) : Type 0 where
    pub held : (c : Con) → o ≡ Some c → IsConstantOf class c
    pub least : (node : ℕ) (c : Con) → node < n → slice_get nodes node ≡ Some (Const c) → slice_index classes node ≡ class → (d : Con)
        × (o ≡ Some d) × IsAtMost d c

  pub record AreLeast (n : ℕ) (all : List (Option Con)) : Type 0 where
    pub count : length all ≡ length nodes
    pub each : (class : ℕ) → class < length nodes → IsLeastOf n class (slice_index_or all class None)

abbrev pub lesser : Option Con → Con → Con
lesser None c = c
lesser (Some d) c = if is_gt (con_cmp d c) then c else d

module _ (nodes : List Node) (classes : List ℕ) (all : List (Option Con)) where
  -- a node with the constant c, the least constant of its class being d
  abbrev pub Exceeds : ℕ → Con → Con → Type 0
  Exceeds node d c = (slice_get nodes node ≡ Some (Const c)) × (slice_index_or all (slice_index classes node) None ≡ Some d) × IsLesser d c

  -- the least of these pairs among the first n nodes
  pub record IsLeastExcess (n : ℕ) (pair : Con × Con) : Type 0 where
    pub node : ℕ
    pub exceeds : Exceeds node pair.0 pair.1
    pub least : (a : ℕ) (d c : Con) → a < n → Exceeds a d c → IsLesser pair.0 d ⊎ ((pair.0 ≡ d) × IsAtMost pair.1 c)

  abbrev pub IsExcess : ℕ → Option (Con × Con) → Type 0
  IsExcess n clash = MatchOption clash ((a : ℕ) (d c : Con) → a < n → Exceeds a d c → ⊥) (IsLeastExcess n)

-- there is no pair so far, or one that is greater than the pair of a class's least constant and another constant
abbrev pub is_replaced : Option (Con × Con) → Con → Con → Bool
is_replaced None d c = true
is_replaced (Some pair) d c = is_gt (ordering_then (con_cmp pair.0 d) (con_cmp pair.1 c))

-- the lesser of a pair and the pair of a class's least constant and a greater one
abbrev pub lesser_clash : Option (Con × Con) → Option Con → Con → Option (Con × Con)
lesser_clash clash None c = clash
lesser_clash clash (Some d) c = if is_gt (con_cmp c d) && is_replaced clash d c then Some (d, c) else clash

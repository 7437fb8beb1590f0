-- Classes of nodes: the class of each node, and a ring of the members of each class.
use Rattle.std.specs.Prelude.{◌≡◌, ℕ, ◌<◌, List, length, slice_index, if◌then◌else◌, ◌==◌}

-- a list has a number at some place
abbrev pub Has : List ℕ → ℕ → Type 0
Has xs x = (place : ℕ) × (place < length xs) × (slice_index xs place ≡ x)

-- a node of the class
abbrev pub IsIn : List ℕ → ℕ → ℕ → Type 0
IsIn classes class x = (x < length classes) × (slice_index classes x ≡ class)

-- one comes from a to b by going from each to the one that follows, on nodes of some kind alone
pub data Through (P : ℕ → Type 0) (follow : ℕ → ℕ) : ℕ → ℕ → Type 0 where
  here : {a : ℕ} → P a → Through P follow a a
  on : {a b : ℕ} → P a → Through P follow (follow a) b → Through P follow a b

-- a node is followed by one of its class, and from each node one comes to all of its class
pub record AreRings (classes following : List ℕ) : Type 0 where
  pub count : length following ≡ length classes
  pub kept : (x : ℕ) → x < length classes → IsIn classes (slice_index classes x) (slice_index following x)
  pub linked : (class a b : ℕ) → IsIn classes class a → IsIn classes class b → Through (IsIn classes class) (slice_index following) a b

-- the class to which a class goes, where one class is joined to another
abbrev pub joined : ℕ → ℕ → ℕ → ℕ
joined from to class = if class == from then to else class

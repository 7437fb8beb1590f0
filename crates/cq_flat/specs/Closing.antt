-- The state of a closure that is being made.
use Rattle.std.specs.Prelude.{◌≡◌, ◌≢◌, ℕ, zero, suc, ◌+◌, ◌<◌, ◌↔◌, ◌⊎◌, List, [], length, Option, Some, None, Contains, slice_get}
use Rattle.std.specs.Prelude.{slice_index, slice_index_or, if◌then◌else◌, ◌==◌}
use Rattle.cq_flat.specs.declared.node.Node.{Node}
use Rattle.cq_flat.specs.declared.node.Node.TheVariants.{Fun}
use Rattle.cq_flat.specs.Congruence.{Congruent}
use Rattle.cq_flat.specs.Keys.{key_of, found}
use Rattle.cq_flat.specs.Partition.{Has, IsIn}

-- one class for nodes that are equal, and for no others
pub record AreExact (nodes : List Node) (equations : List (ℕ × ℕ)) (classes : List ℕ) : Type 0 where
  pub count : length classes ≡ length nodes
  pub within : (a : ℕ) → a < length nodes → slice_index classes a < length nodes
  pub exact : (a b : ℕ) → a < length nodes → b < length nodes
      → (slice_index classes a ≡ slice_index classes b) ↔ Congruent nodes equations a b

-- two of the first n nodes are in one class, or come into one when the pairs that wait are joined
pub data Joined (n : ℕ) (class : ℕ → ℕ) (pending : List (ℕ × ℕ)) : ℕ → ℕ → Type 0 where
  same : {a b : ℕ} → a < n → b < n → class a ≡ class b → Joined n class pending a b
  waiting : {a b : ℕ} → Contains pending (a, b) → Joined n class pending a b
  symmetric : {a b : ℕ} → Joined n class pending a b → Joined n class pending b a
  transitive : {a b c : ℕ} → Joined n class pending a b → Joined n class pending b c → Joined n class pending a c

module _ (nodes : List Node) where
  -- where a node has a key, the table has a node at the key with which it is joined
  abbrev pub IsTabled : (ℕ → ℕ) → List (List ℕ × ℕ) → List (ℕ × ℕ) → ℕ → Type 0
  IsTabled class table pending a = (node : Node) (key : List ℕ) → slice_get nodes a ≡ Some node → key_of class node ≡ Some key
      → (b : ℕ) × (found table key ≡ Some b) × Joined (length nodes) class pending a b

  module _ (equations : List (ℕ × ℕ)) where
    -- each node is equal to its class, which is a node
    abbrev pub AreSound : (ℕ → ℕ) → Type 0
    AreSound class = (a : ℕ) → a < length nodes → Congruent nodes equations a (class a)

    -- the node had the key when the classes were others
    pub record IsEntry (key : List ℕ) (a : ℕ) : Type 0 where
      pub class : ℕ → ℕ
      pub sound : AreSound class
      pub node : Node
      pub is : slice_get nodes a ≡ Some node
      pub keyed : key_of class node ≡ Some key

    -- nothing is joined, or waits to be, that is not equal
    pub record IsSound (class : ℕ → ℕ) (table : List (List ℕ × ℕ)) (pending : List (ℕ × ℕ)) : Type 0 where
      pub classes : AreSound class
      pub entries : (key : List ℕ) (a : ℕ) → found table key ≡ Some a → IsEntry key a
      pub pairs : (a b : ℕ) → Contains pending (a, b) → Congruent nodes equations a b

  -- some nodes are put into the table at their keys; what is found there waits
  pub record Enters (class : ℕ → ℕ) (entered : ℕ → Type 0) (table table' : List (List ℕ × ℕ)) (pending pending' : List (ℕ × ℕ))
      : Type 0 where
    pub sound : (equations : List (ℕ × ℕ)) → IsSound equations class table pending → IsSound equations class table' pending'
    pub kept : (a b : ℕ) → Contains pending (a, b) → Contains pending' (a, b)
    pub tabled : (a : ℕ) → entered a ⊎ IsTabled class table pending a → IsTabled class table' pending' a

-- each node stands in the list of each of its arguments; only nodes stand there
pub record AreUses (nodes : List Node) (uses : List (List ℕ)) : Type 0 where
  pub listed : (a f x : ℕ) (args : List ℕ) → slice_get nodes a ≡ Some (Fun f args) → Has args x → Has (slice_index_or uses x []) a
  pub within : (k a : ℕ) → Has (slice_index_or uses k []) a → a < length nodes

-- the first pair that waits and is of two classes
pub record Skips (class : ℕ → ℕ) (pending pending' : List (ℕ × ℕ)) (result : Option (ℕ × ℕ)) : Type 0 where
  pub fewer : (a b : ℕ) → Contains pending' (a, b) → Contains pending (a, b)
  pub skipped : (a b : ℕ) → Contains pending (a, b) → Contains pending' (a, b) ⊎ ((class a ≡ class b) ⊎ (result ≡ Some (class a, class b)))
  pub next : (x y : ℕ) → result ≡ Some (x, y) → (x ≢ y) × ((a : ℕ) × (b : ℕ) × Contains pending (a, b) × (class a ≡ x) × (class b ≡ y))
  pub none : result ≡ None → pending' ≡ []

-- how many of the first n nodes are the number of their own class
abbrev pub roots_below : (ℕ → ℕ) → ℕ → ℕ
roots_below class zero = 0
roots_below class (suc n) = roots_below class n + (if class n == n then 1 else 0)

-- a node is put into the lists of its arguments
pub record AddsUses (old new : List (List ℕ)) (node : ℕ) (args : List ℕ) : Type 0 where
  pub kept : (k a : ℕ) → Has (slice_index_or old k []) a → Has (slice_index_or new k []) a
  pub added : (x : ℕ) → Has args x → Has (slice_index_or new x []) node
  pub fewer : (k a : ℕ) → Has (slice_index_or new k []) a → Has (slice_index_or old k []) a ⊎ (a ≡ node)

-- the functions among the first n nodes are put behind some numbers
pub record AddsFunctions (nodes : List Node) (n : ℕ) (old new : List ℕ) : Type 0 where
  pub kept : (a : ℕ) → Has old a → Has new a
  pub added : (a f : ℕ) (args : List ℕ) → a < n → slice_get nodes a ≡ Some (Fun f args) → Has new a
  pub fewer : (a : ℕ) → Has new a → Has old a ⊎ (a < n)

-- what has a member of a class as an argument becomes stale
pub record Stales (classes : List ℕ) (uses : List (List ℕ)) (class : ℕ) (old new : List ℕ) : Type 0 where
  pub kept : (a : ℕ) → Has old a → Has new a
  pub added : (x a : ℕ) → IsIn classes class x → Has (slice_index_or uses x []) a → Has new a
  pub fewer : (a : ℕ) → Has new a → Has old a ⊎ ((x : ℕ) × Has (slice_index_or uses x []) a)

-- What a closure that is being made keeps.
use Rattle.std.specs.Prelude.{◌≡◌, ℕ, ◌+◌, ◌*◌, ◌<◌, ◌⊎◌, List, [], ◌∷◌, length, map, Contains}
use Rattle.std.specs.Prelude.{Some, slice_get, slice_index, slice_index_or}
use Rattle.cq_theory.specs.declared.constant.Con.{Con}
use Rattle.cq_flat.specs.declared.node.Node.{Node}
use Rattle.cq_flat.specs.declared.node.Node.TheVariants.{Const, Fun}
use Rattle.std.specs.List.{range_with_len}
use Rattle.cq_flat.specs.declared.closing.Closing.{Closing}
use Rattle.cq_flat.specs.Partition.{Has, AreRings, joined}
use Rattle.cq_flat.specs.Closing.{Joined, IsSound, IsTabled, Stales, Enters, roots_below}

-- the class of a node
abbrev pub class_in : Closing → ℕ → ℕ
class_in s = slice_index s.classes.items

-- any node
abbrev pub AnyNode : ℕ → Type 0
AnyNode a = Unit {0}

-- a constant among the first n nodes
abbrev pub IsEarlyConstant : List Node → ℕ → ℕ → Type 0
IsEarlyConstant nodes n a = (a < n) × ((c : Con) × (slice_get nodes a ≡ Some (Const c)))

-- A class is a node of that class; the rings are those of the classes. Nodes that are known stand among the uses of their arguments.
pub record IsShaped (nodes : List Node) (IsKnown : ℕ → Type 0) (s : Closing) : Type 0 where
  pub count : length s.classes.items ≡ length nodes
  pub within : (a : ℕ) → a < length nodes → class_in s a < length nodes
  pub root : (a : ℕ) → a < length nodes → class_in s (class_in s a) ≡ class_in s a
  pub rings : AreRings s.classes.items s.following.items
  pub uses : (a f x : ℕ) (args : List ℕ) → IsKnown a → slice_get nodes a ≡ Some (Fun f args) → Has args x
      → Has (slice_index_or s.uses x []) a
  pub users : (k a : ℕ) → Has (slice_index_or s.uses k []) a → a < length nodes

-- What is joined is equal. What is equal, of the nodes that are known, is joined once the pairs that wait are, and the functions that are
-- stale are looked up anew.
pub record IsClosing (nodes : List Node) (equations : List (ℕ × ℕ)) (IsKnown : ℕ → Type 0) (s : Closing) : Type 0 where
  pub shape : IsShaped nodes IsKnown s
  pub sound : IsSound nodes equations (class_in s) s.table s.pending.items
  pub given : (a b : ℕ) → Contains equations (a, b) → Joined (length nodes) (class_in s) s.pending.items a b
  pub within : (a : ℕ) → Has s.stale.items a → a < length nodes
  pub tabled : (a : ℕ) → IsKnown a → Has s.stale.items a ⊎ IsTabled nodes (class_in s) s.table s.pending.items a

-- each of n nodes is alone in its class, and none was looked up
pub record IsAlone (n : ℕ) (equations : List (ℕ × ℕ)) (s : Closing) : Type 0 where
  pub classes : s.classes.items ≡ range_with_len 0 n
  pub rings : AreRings s.classes.items s.following.items
  pub uses : s.uses ≡ []
  pub table : s.table ≡ []
  pub pending : s.pending.items ≡ equations
  pub stale : s.stale.items ≡ []

-- one node is looked up
pub record EntersOne (nodes : List Node) (node : ℕ) (old new : Closing) : Type 0 where
  pub classes : new.classes ≡ old.classes
  pub following : new.following ≡ old.following
  pub uses : new.uses ≡ old.uses
  pub stale : new.stale ≡ old.stale
  pub entered : Enters nodes (class_in old) (λ a. a ≡ node) old.table new.table old.pending.items new.pending.items

-- one class is joined to another, and the functions of its members are stale
pub record Merges (old new : Closing) (from to : ℕ) : Type 0 where
  pub classes : new.classes.items ≡ map (joined from to) old.classes.items
  pub rings : AreRings new.classes.items new.following.items
  pub uses : new.uses ≡ old.uses
  pub table : new.table ≡ old.table
  pub pending : new.pending.items ≡ old.pending.items
  pub stale : Stales old.classes.items old.uses from old.stale.items new.stale.items

-- the stale functions are looked up anew
pub record Refreshes (nodes : List Node) (old new : Closing) : Type 0 where
  pub classes : new.classes.items ≡ old.classes.items
  pub following : new.following.items ≡ old.following.items
  pub uses : new.uses ≡ old.uses
  pub stale : new.stale.items ≡ []
  pub idle : old.stale.items ≡ [] → new.pending.items ≡ old.pending.items
  pub entered : Enters nodes (class_in old) (Has old.stale.items) old.table new.table old.pending.items new.pending.items

-- whether something waits
abbrev pub waits : {A : Type 0} → List A → ℕ
waits [] = 0
waits (x ∷ xs) = 1

-- Falls with each step of a closure: a class fewer, or else less that waits.
abbrev pub steps_left : ℕ → Closing → ℕ
steps_left n s = 4 * roots_below (class_in s) n + 2 * waits s.stale.items + waits s.pending.items

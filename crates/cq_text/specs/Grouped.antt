-- The edges from each entity.
use Rattle.std.specs.Prelude.{ℕ, List, ◌≡◌, ◌<◌, map, length, slice_index_or}
use Rattle.std.specs.declared.alloc.Global.{Global}
use Rattle.std.specs.declared.vec.Vec.{Vec}
use Rattle.cq_theory.specs.declared.schema.Edge.{Edge}
use Rattle.cq_theory.specs.Canonical.{edges_from}

-- the numbers of the edges from an entity, in their order
abbrev pub numbers_from : ℕ → List Edge → List ℕ
numbers_from entity edges = map (λ p. p.0) (edges_from entity edges)

-- one list for each of so many entities, with the numbers of the edges from it
pub record IsGrouped (edges : List Edge) (entities : ℕ) (groups : List (Vec ℕ Global)) : Type 0 where
  pub count : length groups ≡ entities
  pub group : (entity : ℕ) (d : Vec ℕ Global) → entity < entities → (slice_index_or groups entity d).items ≡ numbers_from entity edges

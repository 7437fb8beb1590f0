-- How many rows an entity has.
use Rattle.std.specs.Prelude.{ℕ, zero, suc, Bool, ◌+◌, ◌<◌, ◌≤◌, ◌≡◌, ◌==◌, ◌&&◌, if◌then◌else◌}
use Rattle.cq_tables.specs.Content.{Content, made_of, live_of}
use Rattle.cq_tables.specs.Content.{entity_of as row_entity}
use Rattle.cq_growth.specs.declared.counts.Most.{Most}

-- a row that stands, of this entity
abbrev pub is_of : Content → ℕ → ℕ → Bool
is_of m e r = live_of m r && (row_entity m r == e)

-- how many of the first n rows are of an entity
abbrev pub rows_below : Content → ℕ → ℕ → ℕ
rows_below m e zero = 0
rows_below m e (suc n) = rows_below m e n + (if is_of m e n then 1 else 0)

abbrev pub rows_of : Content → ℕ → ℕ
rows_of m e = rows_below m e (made_of m)

-- the entity has this many rows, and no entity has more
pub record IsMost (m : Content) (entities : ℕ) (most : Most) : Type 0 where
  pub within : most.entity < entities
  pub counted : most.count ≡ rows_of m most.entity
  pub none_has_more : (e : ℕ) → e < entities → rows_of m e ≤ most.count

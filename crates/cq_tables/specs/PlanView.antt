-- The view of `Plan`.
use Rattle.std.specs.Prelude.{◌≡◌, ◌<◌, ℕ, List, [], map, length, IsSome, slice_index_or}
use Rattle.cq_tables.specs.Content.{step_of}
use Rattle.cq_tables.specs.Places.{rank_of, keys_from}
use Rattle.cq_tables.specs.Shape.{Shape}
use Rattle.cq_tables.specs.declared.plan.Plan.TheInside.{Inside}

abbrev pub shape_of : Inside → Shape
shape_of t = record { entities = length t.starting.items; keys = t.keys.items }

-- the list of each entity
abbrev pub lists_of : Inside → List (List ℕ)
lists_of t = map (λ list. list.items) t.starting.items

-- a key has its number among the keys of its entity, and an entity the list of the keys that go from it
pub record IsPlanned (t : Inside) : Type 0 where
  pub count : length t.slots.items ≡ length t.keys.items
  pub slots : (e k : ℕ) → IsSome (step_of t.keys.items e k) → slice_index_or t.slots.items k 0 ≡ rank_of t.keys.items e k
  pub starting : (e : ℕ) → e < length t.starting.items → slice_index_or (lists_of t) e [] ≡ keys_from t.keys.items e

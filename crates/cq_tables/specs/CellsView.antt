-- The view of `Cells`.
use Rattle.std.specs.Prelude.{ℕ, ◌-◌, List, map, vec_len, vec_capacity}
use Rattle.cq_tables.specs.View.{View}
use Rattle.cq_tables.specs.Inverse.{IsInverse}
use Rattle.cq_tables.specs.declared.cells.Cells.TheInside.{Inside}

abbrev pub lists_of : Inside → List (List ℕ)
lists_of t = map (λ v. v.items) t.mentions.items

abbrev pub view_of : Inside → View
view_of t = record {
  cells = t.cells.items;
  counts = map (λ v. vec_len v) t.mentions.items;
  room = map (λ v. vec_capacity v - vec_len v) t.mentions.items;
}

abbrev pub IsKept : Inside → Type 0
IsKept t = IsInverse t.cells.items t.spots.items (lists_of t)

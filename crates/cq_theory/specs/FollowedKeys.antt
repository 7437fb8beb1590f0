-- The keys of a path, as they stand in memory.
use Rattle.std.specs.Prelude.{ℕ, List, [], ◌∷◌}
use Rattle.std.specs.Rc.{rc_slice_items}
use Rattle.cq_theory.specs.declared.path.Keys.{Keys}
use Rattle.cq_theory.specs.declared.path.Keys.TheVariants.{Empty, One, More}

-- none, one, or a list with memory of its own
abbrev pub followed_keys : Keys → List ℕ
followed_keys Empty = []
followed_keys (One key) = key ∷ []
followed_keys (More keys) = rc_slice_items keys

-- Tables of names.
use Rattle.std.specs.Prelude.{ℕ, List, Bool, Option, position, nat_eq}
use Rattle.std.specs.List.{IsDistinct}
use Rattle.std.specs.Cmp.Lexicographic.{pointwise}
use Rattle.cq_base.specs.declared.name.Name.{Name}

-- the two names have the same bytes
abbrev pub same_name : Name → Name → Bool
same_name = pointwise nat_eq

-- the number of a name in a table of names: its place, from 0
abbrev pub number_of : List Name → Name → Option ℕ
number_of names name = position (same_name name) names

-- no name stands twice
abbrev pub AreDistinct : List Name → Type 0
AreDistinct = IsDistinct same_name

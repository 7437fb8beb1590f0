-- Where a byte stands in a file.
use Rattle.std.specs.Prelude.{ℕ, ◌+◌, List, Bool, nat_eq, not, count_by}
use Rattle.std.specs.List.{suffix_len}
use Rattle.cq_base.specs.declared.place.Place.{Place}

-- LF, which ends a line
abbrev pub is_line_feed : ℕ → Bool
is_line_feed b = nat_eq b 10

abbrev pub stays_on_line : ℕ → Bool
stays_on_line b = not (is_line_feed b)

-- the place of the byte behind these: as many lines on as they have LFs, and in its line as many columns on as bytes
-- stand behind the last LF, both from 1
abbrev pub place_behind : List ℕ → Place
place_behind before = record { line = 1 + count_by is_line_feed before; col = 1 + suffix_len stays_on_line before }

-- A line of a text as it is shown, with a caret under a column.
use Rattle.std.specs.Prelude.{◌==◌, ◌+◌, ◌-◌, ◌&&◌, ℕ, Bool, false, List, [], ◌∷◌, ◌++◌, codes, decimal, drop, length}
use Rattle.std.specs.Prelude.{replicate, take, unwrap_or}
use Rattle.std.specs.Prelude.{if◌then◌else◌, nat_le, nat_lt}
use Rattle.std.specs.List.{flat_map, prefix_len}
use Rattle.std.specs.Str.{chars, is_utf8}
use Rattle.unicode_width.specs.Width.{char_width}
use Rattle.cq_base.specs.declared.place.Place.{Place}
use Rattle.cq_place.specs.Lines.{before_column, from_column, line_of}

-- how many bytes of a line are shown on either side of the column
abbrev pub most_shown : ℕ
most_shown = 80

-- a byte within a character of UTF-8, and not at its beginning
abbrev pub is_inside : ℕ → Bool
is_inside byte = nat_le 128 byte && nat_lt byte 192

-- how many bytes belong to a character that began before: three at most
abbrev pub inside_len : List ℕ → ℕ
inside_len bytes = prefix_len is_inside (take 3 bytes)

abbrev pub dots : List ℕ
dots = codes "..."

-- what is left from the first whole character on
abbrev pub last_part : List ℕ → List ℕ
last_part bytes = drop (inside_len bytes) bytes

-- of what stands before the column: three dots for what isn't shown, and the end that is
abbrev pub front_mark : List ℕ → List ℕ
front_mark front = if nat_le (length front) most_shown then [] else dots

abbrev pub front_end : List ℕ → List ℕ
front_end front = if nat_le (length front) most_shown then front else last_part (drop (length front - most_shown) front)

-- of what stands from the column on: the start that is shown, up to a whole character, and three dots for what isn't
abbrev pub first_part : List ℕ → List ℕ
first_part bytes = take (most_shown + inside_len (drop most_shown bytes)) bytes

abbrev pub back_shown : List ℕ → List ℕ
back_shown back = if nat_le (length back) most_shown then back else first_part back ++ dots

-- what leads past a character: a tab past a tab, and as many blanks past another as it is wide
abbrev pub past_char : ℕ → List ℕ
past_char c = if c == 9 then 9 ∷ [] else replicate (unwrap_or (char_width false c) 0) 32

-- what leads past a byte that is no character of its own
abbrev pub past_byte : ℕ → List ℕ
past_byte byte = if byte == 9 then 9 ∷ [] else 32 ∷ []

-- what leads past a text, to the column behind it
abbrev pub past : List ℕ → List ℕ
past bytes = if is_utf8 bytes then flat_map past_char (chars bytes) else flat_map past_byte bytes

-- what stands behind the number of a line, or behind as many blanks
abbrev pub stroke : List ℕ
stroke = codes " | "

-- a line, of which this stands before the column and that from it on
abbrev pub upper : ℕ → List ℕ → List ℕ → List ℕ
upper number front back = decimal number ++ stroke ++ front_mark front ++ front_end front ++ back_shown back ++ codes "\n"

-- the line under it, with a caret
abbrev pub lower : ℕ → List ℕ → List ℕ
lower number front =
    replicate (length (decimal number)) 32 ++ stroke ++ replicate (length (front_mark front)) 32 ++ past (front_end front) ++ codes "^\n"

-- the line at a place, and under it a caret at the place's column
unfoldable pub shown_at : List ℕ → Place → List ℕ
shown_at text place =
    let line = line_of text place.line in
    upper place.line (before_column line place.col) (from_column line place.col) ++ lower place.line (before_column line place.col)

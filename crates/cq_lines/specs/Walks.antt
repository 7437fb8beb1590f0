-- A walk over the records of a text, and the places of records.
use Rattle.std.specs.Prelude.{ℕ, List, ◌≡◌, ◌+◌, ◌≤◌, ◌<◌, ◌^◌, length, drop}
use Rattle.cq_lines.specs.declared.walk.Place.{Place}
use Rattle.cq_lines.specs.declared.walk.Walk.{Walk}
use Rattle.cq_lines.specs.Lines.{behind, from_record, line_ends, line_of}
use Rattle.cq_lines.specs.Stands.{state_of}

-- a line that is counted so far: those that end in the rest are not
pub record Counts (text : List ℕ) (at line : ℕ) : Type 0 where
  pub within : at ≤ length text
  pub low : line ≤ at + 1
  pub counted : line + line_ends (drop at text) ≡ line_ends text + 1

-- the walk stands behind so many records of the text as it says
pub record IsWalk (text : List ℕ) (walk : Walk) : Type 0 where
  pub few : length text < 2 ^ 31
  pub stands : behind text walk.number ≡ (state_of walk.stand, drop walk.at text)
  pub counts : Counts text walk.at walk.line

-- the place of the record with this number
pub record IsPlace (text : List ℕ) (number : ℕ) (place : Place) : Type 0 where
  pub within : place.at ≤ length text
  pub begins : drop place.at text ≡ from_record text number
  pub line : place.line ≡ line_of text number

-- Records of a file by their numbers: where they begin.
use Rattle.std.specs.Prelude.{ℕ, List, [], ◌∷◌, Option, Some, None, ◌≡◌, ◌≤◌, length, drop, slice_get, slice_index_or}
use Rattle.csv.specs.Machine.{Read, next_record}
use Rattle.csv.specs.Reading.{default_config, strip_bom}
use Rattle.csv.specs.declared.parser.State.TheVariants as st
use Rattle.cq_lines.specs.Lines.{from_record, line_of}
use Rattle.cq_origin.specs.declared.records.FoundRecord.{FoundRecord}

-- the first field of a record that was read
abbrev pub id_in : Option Read → List ℕ
id_in None = []
id_in (Some p) = slice_index_or p.0 0 []

-- the first field of the first record of some bytes
abbrev pub first_id : List ℕ → List ℕ
first_id bytes = id_in (next_record default_config st.StartRecord [] [] (strip_bom bytes))

-- the line in which the record of this number begins, and what stands first in it; the header has the number 0
pub record IsFound (text : List ℕ) (found : FoundRecord) : Type 0 where
  pub line : found.line ≡ line_of text found.number
  pub id : found.id ≡ first_id (from_record text found.number)

abbrev pub AreFound : List ℕ → List FoundRecord → Type 0
AreFound text found = (n : ℕ) (one : FoundRecord) → slice_get found n ≡ Some one → IsFound text one

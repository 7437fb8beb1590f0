-- The records of a file, and a reader that has some of them left.
use Rattle.std.specs.Prelude.{ℕ, Bool, true, false, List, [], ◌∷◌, ◌≡◌, Option, Some, slice_index_or}
use Rattle.std.specs.Borrow.{Bor}
use Rattle.csv.specs.Reading.{AreRecords, Ready, default_config, reader_config, reader_state, reader_trim, records, source_of, strip_bom}
use Rattle.csv.specs.declared.reader.Reader.{Reader}
use Rattle.csv.specs.declared.reader.Trim.TheVariants as trim

-- a record: its fields
abbrev pub Record : Type 0
Record = List (List ℕ)

-- the records of a file's bytes, as csv reads them: commas, double quotes, no empty lines, and no mark of byte order
abbrev pub records_of : List ℕ → List Record
records_of text = records default_config (strip_bom text)

-- the field in a column, from 0
abbrev pub field_in : Record → ℕ → List ℕ
field_in fields column = slice_index_or fields column []

-- these are the records that the reader has left
pub record Remains (reader : Reader (Bor (List ℕ))) (rows : List Record) : Type 0 where
  pub plain : reader_trim reader ≡ trim.None
  pub ready : Ready reader
  pub config : reader_config reader ≡ default_config
  pub rest : List ℕ
  pub source : source_of (λ s. Some s.now) reader ≡ Some rest
  pub left : AreRecords default_config (reader_state reader) rest rows

-- these fields are those of the first record, and the reader has the others left
pub record Takes (reader : Reader (Bor (List ℕ))) (rows : List Record) (fields : Record) : Type 0 where
  pub others : List Record
  pub first : rows ≡ fields ∷ others
  pub remains : Remains reader others

-- the reader found one more record, or there was none
abbrev pub Steps : Reader (Bor (List ℕ)) → List Record → Record → Bool → Type 0
Steps reader rows fields true = Takes reader rows fields
Steps reader rows fields false = rows ≡ []

-- Records of fields, and the text of a file of records.
use Rattle.std.specs.Prelude.{ℕ, Bool, false, List, [], ◌++◌, ◌≡◌}
use Rattle.std.specs.List.{flat_map}
use Rattle.std.specs.declared.alloc.Global.{Global}
use Rattle.std.specs.declared.vec.Vec.{Vec}
use Rattle.csv.specs.Records.{Row, fields_of, partial_of}
use Rattle.csv.specs.Writing.{row_text, default_writer, writer_under, writer_pending, fields_written, has_written, writer_setup}
use Rattle.csv.specs.declared.writer.Writer.{Writer}

-- the text of a file: each record as a line, as csv writes it by default
abbrev pub file_text : List (List (List ℕ)) → List ℕ
file_text = flat_map (row_text default_writer)

-- whole fields are added to a record
pub record AddsFields (old new : Row) (fields : List (List ℕ)) : Type 0 where
  pub added : fields_of new ≡ fields_of old ++ fields
  pub whole : partial_of new ≡ []

-- a writer by default has written these records, and nothing of another one
pub record HasWritten (writer : Writer (Vec ℕ Global)) (records : List (List (List ℕ))) : Type 0 where
  pub text : (writer_under writer).items ++ writer_pending writer ≡ file_text records
  pub fields : fields_written writer ≡ 0
  pub wrote : has_written writer ≡ false
  pub setup : writer_setup writer ≡ default_writer

-- The lines that a run writes in place of a transcript.
use Rattle.std.specs.Prelude.{ℕ, List, [], ◌++◌, codes}
use Rattle.cq_base.specs.declared.place.Place.{Place}
use Rattle.cq_environment.specs.Lines.{line_of}
use Rattle.cq_environment.specs.declared.refusal.ReadCause.{ReadCause}
use Rattle.cq_environment.specs.declared.refusal.ReadCause.TheVariants.{Absent, TooLong, Failed}

abbrev pub usage_line : List ℕ
usage_line = codes "usage: cqlrun run FILE [--depth K] [--only csv|cql]\n"

abbrev pub cause_word : ReadCause → List ℕ
cause_word Absent = codes " absent\n"
cause_word TooLong = codes " too long\n"
cause_word Failed = codes " failed\n"

-- of a file that was not read
abbrev pub read_line : List ℕ → ReadCause → List ℕ
read_line name cause = codes "read " ++ name ++ cause_word cause

-- what is refused of a question stands in no file, and is told at the first place of one
abbrev pub first_place : Place
first_place = record { line = 1; col = 1 }

-- of a question about an instance that isn't declared
abbrev pub no_instance_line : List ℕ
no_instance_line = line_of first_place 37 (codes "NoInstance") []

-- of a question whose terms are none, or make no equation
abbrev pub bad_term_line : List ℕ
bad_term_line = line_of first_place 38 (codes "BadTerm") []

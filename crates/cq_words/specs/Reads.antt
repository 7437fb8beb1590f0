-- What the words ask for, by the matches of `clap` for the command.
use Rattle.std.specs.Prelude.{◌&&◌, ◌^◌, ℕ, Bool, List, [], ◌∷◌, Option, Some, None, codes, length, nat_le, nat_lt, if◌then◌else◌}
use Rattle.std.specs.Prelude.{option_map, option_and_then}
use Rattle.std.specs.List.{list_all}
use Rattle.std.specs.Char.{digit_value}
use Rattle.std.specs.Str.{bytes_eq}
use Rattle.std.specs.Str.Parse.{digits_value, without_leading_plus}
use Rattle.clap.specs.Words.{Kinds, Row, Text, fault_of, first_of, one_of, subcommand_of}
use Rattle.cq_io.specs.declared.format.Format.{Format}
use Rattle.cq_io.specs.declared.format.Format.TheVariants.{Csv, Cql}
use Rattle.cq_words.specs.Ask.{Ask, run, example, explain}
use Rattle.cq_words.specs.Line.{the_command}

-- one digit or more
abbrev pub is_numeral : List ℕ → Bool
is_numeral digits = nat_lt 0 (length digits) && list_all (λ digit. nat_lt (digit_value digit) 10) digits

-- the number of at most so many bits that the text writes, in digits, with a plus in front or none
abbrev pub number_in : ℕ → Text → Option ℕ
number_in bits text =
    let digits = without_leading_plus text in
    if is_numeral digits && nat_lt (digits_value 10 digits) (2 ^ bits) then Some (digits_value 10 digits) else None

-- a number from low to high
abbrev pub number_between : ℕ → ℕ → Option ℕ → Option ℕ
number_between low high None = None
number_between low high (Some number) = if nat_le low number && nat_le number high then Some number else None

-- the depth, from 0 to 64
abbrev pub depth_in : List Row → Option ℕ
depth_in rows = number_between 0 64 (option_and_then (number_in 64) (one_of (codes "depth") rows))

-- the size, from 1 to 199,999
abbrev pub size_in : List Row → Option ℕ
size_in rows = number_between 1 199999 (option_and_then (number_in 32) (one_of (codes "N") rows))

abbrev pub format_in : Text → Option Format
format_in text =
    if bytes_eq text (codes "csv") then Some Csv
    else if bytes_eq text (codes "cql") then Some Cql else None

-- no choice, or the choice of one format
abbrev pub choice_in : Option Text → Option (Option Format)
choice_in None = Some None
choice_in (Some text) = option_map (λ format. Some format) (format_in text)

abbrev pub run_with : Option Text → Option ℕ → Option (Option Format) → Option Ask
run_with (Some file) (Some depth) (Some only) = Some (run file depth only)
run_with _ _ _ = None

abbrev pub run_in : List Row → Option Ask
run_in rows = run_with (first_of (codes "FILE") rows) (depth_in rows) (choice_in (first_of (codes "only") rows))

abbrev pub example_in : List Row → Option Ask
example_in rows = option_map example (size_in rows)

abbrev pub explain_with : Option Text → Option Text → Option Text → Option Text → Option ℕ → Option Ask
explain_with (Some file) (Some instance) (Some left) (Some right) (Some depth) = Some (explain file instance left right depth)
explain_with _ _ _ _ _ = None

abbrev pub explain_in : List Row → Option Ask
explain_in rows = explain_with (first_of (codes "FILE") rows) (first_of (codes "INSTANCE") rows) (first_of (codes "LEFT") rows)
    (first_of (codes "RIGHT") rows) (depth_in rows)

abbrev pub asked_by : Text → List Row → Option Ask
asked_by name rows =
    if bytes_eq name (codes "run") then run_in rows
    else if bytes_eq name (codes "example") then example_in rows
    else if bytes_eq name (codes "explain") then explain_in rows else None

-- what the matches of a form ask for
abbrev pub asked : Option (Text × List Row) → Option Ask
asked None = None
asked (Some found) = asked_by found.0 found.1

abbrev pub unless_faulty : Kinds → Option Ask → Option Ask
unless_faulty [] ask = ask
unless_faulty (kind ∷ kinds) ask = None

-- what the words ask for; none where `clap` finds a fault in them
unfoldable pub reads : List Text → Option Ask
reads words = unless_faulty (fault_of the_command words) (asked (subcommand_of the_command words))

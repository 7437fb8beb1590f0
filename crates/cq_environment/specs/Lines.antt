-- The line of a refused program.
use Rattle.std.specs.Prelude.{ℕ, List, [], ◌∷◌, ◌++◌, codes, decimal}
use Rattle.std.specs.List.{flat_map}
use Rattle.cq_base.specs.declared.place.Place.{Place}
use Rattle.cq_environment.specs.declared.reason.Reason.{Reason}
use Rattle.cq_environment.specs.declared.reason.Reason.TheVariants.{NameTaken, NameUnknown, WrongKind, WrongSchema, NotASpan, Duplicate}
use Rattle.cq_environment.specs.declared.reason.Reason.TheVariants.{Unknown, WrongCount, WrongSort, Reserved, TooLarge, Missing}
use Rattle.cq_environment.specs.declared.reason.Reason.TheVariants.{NotPreserved}
use Rattle.cq_environment.specs.declared.reason.Reason.TheVariants.{DutyDepth, DutyRows, Broken, Depth, TooManyRows, Inconsistent}
use Rattle.cq_environment.specs.declared.reason.Reason.TheVariants.{Oversized}
use Rattle.cq_environment.specs.declared.reason.Reason.TheVariants.{TooManyAnswers, NameClash, LongName, NotCsv, BadHeader, BadCell}
use Rattle.cq_environment.specs.declared.reason.Reason.TheVariants.{DoubleId}
use Rattle.cq_environment.specs.declared.reason.Reason.TheVariants.{NoSuchId, ManyRecords, WrongOperand}

abbrev pub code_of : Reason → ℕ
code_of NameTaken = 31
code_of NameUnknown = 32
code_of WrongKind = 33
code_of WrongSchema = 34
code_of NotASpan = 35
code_of WrongOperand = 36
code_of Duplicate = 41
code_of Unknown = 42
code_of WrongCount = 43
code_of WrongSort = 44
code_of Reserved = 45
code_of TooLarge = 46
code_of (Missing name) = 47
code_of (NotPreserved duty) = 51
code_of (DutyDepth duty) = 52
code_of (DutyRows duty) = 53
code_of (Broken equation) = 54
code_of Depth = 61
code_of TooManyRows = 62
code_of (Inconsistent left right) = 63
code_of Oversized = 64
code_of (TooManyAnswers entity) = 65
code_of (NameClash first second) = 71
code_of (LongName part) = 72
code_of (NotCsv file row) = 84
code_of (BadHeader file) = 85
code_of (BadCell file row column) = 86
code_of (DoubleId file row) = 87
code_of (NoSuchId file row column) = 88
code_of ManyRecords = 89

abbrev pub name_of : Reason → List ℕ
name_of NameTaken = codes "Duplicate"
name_of NameUnknown = codes "Unknown"
name_of WrongKind = codes "WrongKind"
name_of WrongSchema = codes "WrongSchema"
name_of NotASpan = codes "NotASpan"
name_of WrongOperand = codes "WrongOperand"
name_of Duplicate = codes "Duplicate"
name_of Unknown = codes "Unknown"
name_of WrongCount = codes "WrongCount"
name_of WrongSort = codes "WrongSort"
name_of Reserved = codes "Reserved"
name_of TooLarge = codes "TooLarge"
name_of (Missing name) = codes "Missing"
name_of (NotPreserved duty) = codes "NotPreserved"
name_of (DutyDepth duty) = codes "Depth"
name_of (DutyRows duty) = codes "TooManyRows"
name_of (Broken equation) = codes "Broken"
name_of Depth = codes "Depth"
name_of TooManyRows = codes "TooManyRows"
name_of (Inconsistent left right) = codes "Inconsistent"
name_of Oversized = codes "TooLarge"
name_of (TooManyAnswers entity) = codes "TooManyAnswers"
name_of (NameClash first second) = codes "NameClash"
name_of (LongName part) = codes "LongName"
name_of (NotCsv file row) = codes "NotCsv"
name_of (BadHeader file) = codes "BadHeader"
name_of (BadCell file row column) = codes "BadCell"
name_of (DoubleId file row) = codes "DoubleId"
name_of (NoSuchId file row column) = codes "NoSuchId"
name_of ManyRecords = codes "TooLarge"

-- what stands behind the name: a name, numbers, value texts, or a file with a record and a column
abbrev pub details_of : Reason → List (List ℕ)
details_of (Missing name) = name ∷ []
details_of (NotPreserved duty) = decimal duty ∷ []
details_of (DutyDepth duty) = decimal duty ∷ []
details_of (DutyRows duty) = decimal duty ∷ []
details_of (Broken equation) = decimal equation ∷ []
details_of (Inconsistent left right) = left ∷ right ∷ []
details_of (TooManyAnswers entity) = entity ∷ []
details_of (NameClash first second) = decimal first ∷ decimal second ∷ []
details_of (LongName part) = decimal part ∷ []
details_of (NotCsv file row) = file ∷ decimal row ∷ []
details_of (BadHeader file) = file ∷ []
details_of (BadCell file row column) = file ∷ decimal row ∷ decimal column ∷ []
details_of (DoubleId file row) = file ∷ decimal row ∷ []
details_of (NoSuchId file row column) = file ∷ decimal row ∷ decimal column ∷ []
details_of _ = []

-- the details, each after a blank
abbrev pub detail_text : List (List ℕ) → List ℕ
detail_text details = flat_map (λ detail. codes " " ++ detail) details

abbrev pub head_of : Place → ℕ → List ℕ → List ℕ
head_of place code name = codes "refused " ++ decimal place.line ++ codes ":" ++ decimal place.col ++ codes " " ++ decimal code
    ++ codes " " ++ name

-- `refused LINE:COL CODE NAME`, each detail after a blank, and LF
abbrev pub line_of : Place → ℕ → List ℕ → List (List ℕ) → List ℕ
line_of place code name details = head_of place code name ++ detail_text details ++ codes "\n"

abbrev pub reason_line : Place → Reason → List ℕ
reason_line place reason = line_of place (code_of reason) (name_of reason) (details_of reason)

-- The faults that the program lists.
use Rattle.std.specs.Prelude.{ℕ, List, [], ◌∷◌, ◌++◌, ◌≡◌, Option, Some, None, map, take}
use Rattle.cq_import.specs.Faults.{Fault as ImportFault, Absent as AbsentFault, TooLong as TooLongFault, NotCsv as NotCsvFault}
use Rattle.cq_import.specs.Faults.{BadHeader as BadHeaderFault, BadCell as BadCellFault, DoubleId as DoubleIdFault}
use Rattle.cq_import.specs.Faults.{NoSuchId as NoSuchIdFault, TooLarge as TooLargeFault}
use Rattle.cq_cells.specs.declared.faults.Fault.{Fault}
use Rattle.cq_cells.specs.declared.faults.Kind.{Kind}
use Rattle.cq_cells.specs.declared.faults.Kind.TheVariants.{Absent, TooLong, NotCsv, BadHeader, BadCell, DoubleId, NoSuchId, TooLarge}
use Rattle.cq_import.specs.declared.labels.Trouble.{Trouble}
use Rattle.cq_import.specs.declared.labels.Trouble.TheVariants as trouble
use Rattle.cq_cells.specs.Found.{Found}

-- what import tells of such a fault
abbrev pub told : Kind → List ℕ → ℕ → ℕ → ImportFault
told Absent file number column = AbsentFault file
told TooLong file number column = TooLongFault file
told NotCsv file number column = NotCsvFault file number
told BadHeader file number column = BadHeaderFault file
told BadCell file number column = BadCellFault file number column
told DoubleId file number column = DoubleIdFault file number
told NoSuchId file number column = NoSuchIdFault file number column
told TooLarge file number column = TooLargeFault

-- what is told of a label that is wrong, or one too many
abbrev pub trouble_kind : Trouble → Kind
trouble_kind trouble.Wrong = BadCell
trouble_kind trouble.Full = TooLarge

-- over the names of the files by their numbers
abbrev pub shown : (ℕ → List ℕ) → Fault → Found
shown name fault = record { fault = told fault.kind (name fault.file) fault.number fault.column; before = fault.before }

abbrev pub listed : (ℕ → List ℕ) → Option Fault → List Found
listed name None = []
listed name (Some fault) = shown name fault ∷ []

-- the most faults that are listed
abbrev pub most_faults : ℕ
most_faults = 100

-- these faults are listed next, up to the most
abbrev pub Lists : List Fault → List Fault → ((ℕ → List ℕ) → List Found) → Type 0
Lists old new found = (name : ℕ → List ℕ)
    → take most_faults (map (shown name) new) ≡ take most_faults (map (shown name) old ++ found name)

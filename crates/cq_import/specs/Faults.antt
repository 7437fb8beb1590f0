-- Why a folder of files is not imported.
use Rattle.std.specs.Prelude.{ℕ, List, [], ◌∷◌, ◌≡◌, ◌⊎◌, Option, Some, None, string_bytes}
use Rattle.cq_import.specs.declared.refusal.CsvRefusal.{CsvRefusal}
use Rattle.cq_import.specs.declared.refusal.CsvRefusal.TheVariants as refusal

-- a file by its name, with the number of the record and of the column in it, from 1
pub data Fault : Type 0 where
  Absent : List ℕ → Fault
  ReadFault : List ℕ → Fault
  TooLong : List ℕ → Fault
  NotCsv : List ℕ → ℕ → Fault
  BadHeader : List ℕ → Fault
  BadCell : List ℕ → ℕ → ℕ → Fault
  DoubleId : List ℕ → ℕ → Fault
  NoSuchId : List ℕ → ℕ → ℕ → Fault
  TooLarge : Fault
  Memory : Fault

-- what a refusal tells
abbrev pub told : CsvRefusal → Fault
told (refusal.Absent file) = Absent (string_bytes file)
told (refusal.ReadFault file) = ReadFault (string_bytes file)
told (refusal.TooLong file) = TooLong (string_bytes file)
told (refusal.NotCsv file number) = NotCsv (string_bytes file) number
told (refusal.BadHeader file) = BadHeader (string_bytes file)
told (refusal.BadCell file number column) = BadCell (string_bytes file) number column
told (refusal.DoubleId file number) = DoubleId (string_bytes file) number
told (refusal.NoSuchId file number column) = NoSuchId (string_bytes file) number column
told refusal.TooLarge = TooLarge
told refusal.Memory = Memory

-- the refusal tells this fault, or want of memory
abbrev pub Tells : CsvRefusal → Option Fault → Type 0
Tells r fault = (told r ≡ Memory) ⊎ (fault ≡ Some (told r))

abbrev pub or_else : Option Fault → Option Fault → Option Fault
or_else None fault = fault
or_else (Some first) fault = Some first

-- the first fault of some faults in order
abbrev pub first_fault : List (Option Fault) → Option Fault
first_fault [] = None
first_fault (fault ∷ faults) = or_else fault (first_fault faults)

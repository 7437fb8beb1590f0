-- Instances that are the models which their presentations present.
use Rattle.std.specs.Prelude.{List, All}
use Rattle.cq_theory.specs.Tables.{Initial}
use Rattle.cq_program.specs.Program.{Listing}

-- the instance is the initial model of its presentation: of the one that was given or made, or of the canonical one of its tables
abbrev pub IsInitial : Listing → Type 0
IsInitial L = Initial L.instance.schema L.instance.presentation L.instance.tables L.instance.assignment

abbrev pub AreInitial : List Listing → Type 0
AreInitial listings = All IsInitial listings

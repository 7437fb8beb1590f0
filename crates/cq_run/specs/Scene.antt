-- What a contract sees of the objects that are handed to a run.
use Rattle.std.specs.Prelude.{ℕ, List}
use Rattle.std.specs.declared.option.Option.{Option}
use Rattle.cq_io.specs.Account.{Account}
use Rattle.cq_io.specs.FolderData.{FolderData}

-- of the sink
pub record Drain : Type 0 where
  pub held : Option (List ℕ)
  pub faults : ℕ
  -- how many more bytes it takes without a fault
  pub spare : Option ℕ

-- of the two lists of exporters
pub record Outlets : Type 0 where
  pub exporters : List Account
  pub spoiled : List Account

-- of all
pub record Scene : Type 0 where
  pub folder : FolderData
  pub out : Drain
  pub outlets : Outlets

-- the sink, the lists of exporters, and all of them, by what a contract sees of each
abbrev pub drain_of : Option (List ℕ) → ℕ → Option ℕ → Drain
drain_of held faults spare = record { held = held; faults = faults; spare = spare }

abbrev pub outlets_of : List Account → List Account → Outlets
outlets_of exporters spoiled = record { exporters = exporters; spoiled = spoiled }

abbrev pub scene_of : FolderData → Drain → Outlets → Scene
scene_of folder out outlets = record { folder = folder; out = out; outlets = outlets }

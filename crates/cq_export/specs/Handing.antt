-- Files that are handed to exporters in turn.
use Rattle.std.specs.Prelude.{◌≡◌, ◌<◌, ◌≤◌, ℕ, List, [], ◌∷◌, ◌++◌, false, length, take, Result, Ok, Err}
use Rattle.cq_io.specs.Account.{Account}
use Rattle.cq_io.specs.Content.{File}
use Rattle.cq_io.specs.Counts.{Rose}
use Rattle.cq_io.specs.declared.refusal.PutRefusal.{PutRefusal}
use Rattle.cq_io.specs.declared.refusal.PutRefusal.TheVariants as put
use Rattle.cq_export.specs.Files.{Files, files_in}
use Rattle.cq_export.specs.declared.handing.Handed.{Handed}
use Rattle.cq_export.specs.declared.handing.Handed.TheVariants as handed

-- the exporter took all the files
pub record Takes (files : List File) (before now : Account) : Type 0 where
  pub format : now.format ≡ before.format
  pub held : now.held ≡ before.held ++ files
  pub later : before.faults ≤ now.faults
  pub steady : now.steady ≡ before.steady

-- it took a proper prefix of them
pub record StopsEarly (files : List File) (before now : Account) : Type 0 where
  pub format : now.format ≡ before.format
  pub count : ℕ
  pub proper : count < length files
  pub held : now.held ≡ before.held ++ take count files
  pub later : before.faults ≤ now.faults
  pub steady : now.steady ≡ before.steady

-- it took a proper prefix of them, and failed
pub record Fails (files : List File) (before now : Account) : Type 0 where
  pub stops : StopsEarly files before now
  pub cause : Rose before.faults now.faults
  pub unsteady : before.steady ≡ false

-- what handing the files to one exporter gives
abbrev pub HandsTo : List File → Account → Account → Result Unit PutRefusal → Type 0
HandsTo files before now (Ok done) = Takes files before now
HandsTo files before now (Err put.Failed) = Fails files before now
HandsTo files before now (Err put.Memory) = StopsEarly files before now

-- Each exporter took all the files of its format and is in the second list, or failed and is in the third, in their order.
pub data Hands (files : Files) : List Account → List Account → List Account → Type 0 where
  nobody : Hands files [] [] []
  took : (before now : Account) (rest done moved : List Account) → Takes (files_in files before.format) before now
      → Hands files rest done moved → Hands files (before ∷ rest) (now ∷ done) moved
  failed : (before now : Account) (rest done moved : List Account) → Fails (files_in files before.format) before now
      → Hands files rest done moved → Hands files (before ∷ rest) done (now ∷ moved)

-- all exporters took their files
pub record AllTake (files : Files) (asked new_exporters old_spoiled new_spoiled : List Account) : Type 0 where
  pub hands : Hands files asked new_exporters []
  pub spoiled : new_spoiled ≡ old_spoiled

-- some exporters failed
pub record SomeFail (files : Files) (asked new_exporters old_spoiled new_spoiled : List Account) : Type 0 where
  pub moved : List Account
  pub some : 0 < length moved
  pub hands : Hands files asked new_exporters moved
  pub spoiled : new_spoiled ≡ old_spoiled ++ moved

-- An exporter had no memory. Those before it took their files or failed, it took a proper prefix, and those after it are as
-- they were.
pub record RunsOut (files : Files) (asked new_exporters old_spoiled new_spoiled : List Account) : Type 0 where
  pub first : List Account
  pub before : Account
  pub now : Account
  pub rest : List Account
  pub done : List Account
  pub moved : List Account
  pub asked_is : asked ≡ first ++ before ∷ rest
  pub hands : Hands files first done moved
  pub stops : StopsEarly (files_in files before.format) before now
  pub exporters : new_exporters ≡ done ++ now ∷ rest
  pub spoiled : new_spoiled ≡ old_spoiled ++ moved

-- what handing the files over gives: the exporters now are those that did not fail
abbrev pub HandsOver : Files → List Account → List Account → List Account → List Account → Handed → Type 0
HandsOver files asked now old_spoiled new_spoiled handed.Whole = AllTake files asked now old_spoiled new_spoiled
HandsOver files asked now old_spoiled new_spoiled handed.Spoiled = SomeFail files asked now old_spoiled new_spoiled
HandsOver files asked now old_spoiled new_spoiled handed.Memory = RunsOut files asked now old_spoiled new_spoiled

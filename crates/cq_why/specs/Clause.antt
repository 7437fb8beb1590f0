-- What `cqlwhy` writes, by the status that it has.
use Rattle.std.specs.Prelude.{◌≡◌, ◌++◌, ℕ, List, [], Some, None, codes}
use Rattle.std.specs.declared.option.Option.{Option}
use Rattle.cq_asked.specs.Asked.{file_asked}
use Rattle.cq_io.specs.FolderData.{FolderData}
use Rattle.cq_io.specs.Writes.{Appends}
use Rattle.cq_run.specs.Clause.{Loses, RunGives}
use Rattle.cq_run.specs.Scene.{Drain, Scene}
use Rattle.cq_run.specs.declared.status.Status.{Status}
use Rattle.cq_run.specs.declared.status.Status.TheVariants as status
use Rattle.cq_words.specs.Ask.{Ask}

-- a folder, a sink that holds nothing and tells what it holds, and no exporters
abbrev pub empty_scene : FolderData → Scene
empty_scene folder = record {
  folder = folder;
  out = record { held = Some []; faults = 0; spare = None };
  outlets = record { exporters = []; spoiled = [] };
}

-- a run of `cqlrun` of what is asked, over the folder, ends with this status and writes this line
pub record Ran (ask : Option Ask) (folder : FolderData) (status : Status) (line : List ℕ) : Type 0 where
  pub finish : Scene
  pub gives : RunGives ask (empty_scene folder) finish status
  pub holds : finish.out.held ≡ Some line

-- the text begins with the line of such a run
pub record BeginsWithLine (ask : Option Ask) (folder : FolderData) (status : Status) (text : List ℕ) : Type 0 where
  pub line : List ℕ
  pub ran : Ran ask folder status line
  pub rest : List ℕ
  pub text_is : text ≡ line ++ rest

-- such a run accepts the file, and the text says so
pub record SaysAccepted (ask : Option Ask) (folder : FolderData) (text : List ℕ) : Type 0 where
  pub transcripts : List ℕ
  pub ran : Ran ask folder status.Ok transcripts
  pub text_is : text ≡ codes "accepted\n"

-- What is due, by the status that the run has. Of words that name no file the text is free.
abbrev pub HasToTell : Option Ask → FolderData → Status → List ℕ → Type 0
HasToTell ask folder status.Ok text = SaysAccepted ask folder text
HasToTell ask folder status.Refused text = BeginsWithLine ask folder status.Refused text
HasToTell ask folder status.Read text = BeginsWithLine ask folder status.Read text
HasToTell ask folder status.Usage text = file_asked ask ≡ None
HasToTell ask folder _ text = ⊥

-- what is due was written whole, once
pub record Tells (ask : Option Ask) (folder : FolderData) (before after : Drain) (result : Status) : Type 0 where
  pub text : List ℕ
  pub due : HasToTell ask folder result text
  pub written : Appends before.held after.held text

-- the sink failed, and has a prefix of what is due
pub record FailsToTell (ask : Option Ask) (folder : FolderData) (before after : Drain) : Type 0 where
  pub wanted : Status
  pub text : List ℕ
  pub due : HasToTell ask folder wanted text
  pub loses : Loses before after text

-- what is written by each status: for want of memory nothing
abbrev pub WhyGives : Option Ask → FolderData → Drain → Drain → Status → Type 0
WhyGives ask folder before after status.Ok = Tells ask folder before after status.Ok
WhyGives ask folder before after status.Refused = Tells ask folder before after status.Refused
WhyGives ask folder before after status.Usage = Tells ask folder before after status.Usage
WhyGives ask folder before after status.Read = Tells ask folder before after status.Read
WhyGives ask folder before after status.Write = FailsToTell ask folder before after
WhyGives ask folder before after status.Memory = after ≡ before

-- From the answer to a file to what its run writes to a sink in memory, with no exporters.
use Rattle.std.proofs.Common.{◌≡◌, ℕ, List, [], Some, None, inl, refl, map, subst}
use Rattle.std.specs.Prelude.{Vec}
use Rattle.std.specs.declared.alloc.Global.{Global}
use Rattle.cq_export.specs.Handing.{nobody}
use Rattle.cq_io.specs.FolderData.{FolderData}
use Rattle.cq_program.specs.Named.{listed_as}
use Rattle.cq_program.specs.declared.declarations.Named.{Named}
use Rattle.cq_run.specs.Answer.{Answers, JudgesSome}
use Rattle.cq_run.specs.Clause.{IsUnreadLine, KeepsAll, RunGives}
use Rattle.cq_run.specs.Meaning.{transcripts_of}
use Rattle.cq_run.specs.Scene.{Outlets, Scene}
use Rattle.cq_run.specs.declared.answer.Answer.{Answer}
use Rattle.cq_run.specs.declared.answer.Answer.TheVariants as answer
use Rattle.cq_run.specs.declared.status.Status.TheVariants as status
use Rattle.cq_words.specs.Ask.{Ask, run}

-- a sink that holds this, and no exporters
abbrev pub scene_of : FolderData → List ℕ → Scene
scene_of folder held = record {
  folder = folder;
  out = record { held = Some held; faults = 0; spare = None };
  outlets = record { exporters = []; spoiled = [] };
}

module _ (file : List ℕ) (depth : ℕ) (before after : FolderData) where
  abbrev asked : Ask
  asked = run file depth None

  keeps_none : KeepsAll (Some asked) (record { exporters = []; spoiled = [] }) (record { exporters = []; spoiled = [] })
  keeps_none = record { exporters = refl; spoiled = refl }

  -- the text was refused
  pub refused_runs : (line : Vec ℕ Global) (a : Answer) → a ≡ answer.Refused line → Answers asked before after a
      → RunGives (Some asked) (scene_of before []) (scene_of after line.items) status.Refused
  refused_runs line a is answers =
      let judged : JudgesSome asked before after (answer.Refused line) = subst (Answers asked before after) is answers in
      record {
        line = line.items;
        due = inl (record { text = judged.text; is_text = judged.is_text; refuses = judged.judges.refuses; other = judged.judges.other });
        written = refl;
        keeps = keeps_none;
      }

  -- a file was not read
  pub unread_runs : (line : Vec ℕ Global) (a : Answer) → a ≡ answer.Unread line → Answers asked before after a
      → RunGives (Some asked) (scene_of before []) (scene_of after line.items) status.Read
  unread_runs line a is answers =
      let unread : IsUnreadLine asked before after line.items = subst (Answers asked before after) is answers in
      record { line = line.items; due = unread; written = refl; keeps = keeps_none }

  -- the text was accepted
  pub accepted_runs : (instances : Vec Named Global) (a : Answer) → a ≡ answer.Accepted instances → Answers asked before after a
      → RunGives (Some asked) (scene_of before []) (scene_of after (transcripts_of (map listed_as instances.items))) status.Ok
  accepted_runs instances a is answers =
      let judged : JudgesSome asked before after (answer.Accepted instances) = subst (Answers asked before after) is answers in
      record {
        text = judged.text;
        is_text = judged.is_text;
        listings = map listed_as instances.items;
        means = judged.judges;
        line = transcripts_of (map listed_as instances.items);
        shows = refl;
        written = refl;
        hands = record { hands = nobody; spoiled = refl };
      }

-- What the words ask for.
use Rattle.std.specs.Prelude.{◌≤◌, ℕ, List, Option}
use Rattle.cq_io.specs.declared.format.Format.{Format}
use Rattle.cq_words.specs.declared.request.Request.{Request}
use Rattle.cq_words.specs.declared.request.Request.TheVariants.{Run, Example, Explain}

pub data Ask : Type 0 where
  -- to run the file of this name, with models made to this depth, and to export in one format where there is a choice
  run : List ℕ → ℕ → Option Format → Ask
  -- to run the example of this size
  example : ℕ → Ask
  -- to say why two terms are equal in an instance of a file: the file, the instance, the two terms, and the depth
  explain : List ℕ → List ℕ → List ℕ → List ℕ → ℕ → Ask

abbrev pub ask_of : Request → Ask
ask_of (Run file depth only) = run file.now depth only
ask_of (Example size) = example size
ask_of (Explain file instance left right depth) = explain file.now instance.now left.now right.now depth

-- the numbers are in their ranges
abbrev pub IsInRange : Request → Type 0
IsInRange (Run file depth only) = depth ≤ 64
IsInRange (Example size) = (1 ≤ size) × (size ≤ 199999)
IsInRange (Explain file instance left right depth) = depth ≤ 64

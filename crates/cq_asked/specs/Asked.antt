-- What the words of `cqlwhy` ask for, by what those of `cqlrun run` ask for.
use Rattle.std.specs.Prelude.{ℕ, List, ◌∷◌, Option, Some, None, codes}
use Rattle.cq_words.specs.Ask.{Ask, run, example, explain}

-- the words of the run of which is told
abbrev pub run_words : List (List ℕ) → List (List ℕ)
run_words words = codes "run" ∷ words

-- the file of which is asked why it is refused, and the depth: those of a run that exports in each format
abbrev pub file_asked : Option Ask → Option (List ℕ × ℕ)
file_asked (Some (run file depth None)) = Some (file, depth)
file_asked (Some (run file depth (Some only))) = None
file_asked (Some (example size)) = None
file_asked (Some (explain file instance left right depth)) = None
file_asked None = None

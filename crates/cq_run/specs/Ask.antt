-- What a run takes from what its words ask for.
use Rattle.std.specs.Prelude.{ℕ, List, Some, None}
use Rattle.std.specs.declared.option.Option.{Option}
use Rattle.cq_io.specs.declared.format.Format.{Format}
use Rattle.cq_words.specs.Ask.{Ask, run, example, explain}

-- the depth to which models are made where none is asked for
abbrev pub usual_depth : ℕ
usual_depth = 16

-- the depth to which models are made
abbrev pub depth_asked : Ask → ℕ
depth_asked (run file depth only) = depth
depth_asked (example size) = usual_depth
depth_asked (explain file instance left right depth) = depth

-- the file that is read, if one is named
abbrev pub file_asked : Ask → Option (List ℕ)
file_asked (run file depth only) = Some file
file_asked (example size) = None
file_asked (explain file instance left right depth) = Some file

-- the one format in which instances are exported, if there is a choice
abbrev pub only_asked : Ask → Option Format
only_asked (run file depth only) = only
only_asked (example size) = None
only_asked (explain file instance left right depth) = None

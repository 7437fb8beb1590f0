use Rattle.std.proofs.Common.{◌≡◌, take, map}
use Rattle.std.specs.List.{flat_map}
use Rattle.cq_program.specs.Named.{listed_as}
use Rattle.cq_run.specs.Summary.{summary_line}
use Rattle.cq_run.proofs.summary.summary.Given as goal

-- the lines so far
abbrev pub invariant-loop-named : goal.invariant-loop-named
invariant-loop-named l = l.text.items ≡ flat_map summary_line (map listed_as (take l.named-index l.instances))

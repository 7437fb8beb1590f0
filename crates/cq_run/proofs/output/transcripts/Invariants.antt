use Rattle.std.proofs.Common.{◌≡◌, take, map}
use Rattle.std.specs.List.{flat_map}
use Rattle.cq_program.specs.Named.{listed_as}
use Rattle.cq_run.specs.Meaning.{transcript_of}
use Rattle.cq_run.proofs.output.transcripts.Given as goal

-- the transcripts so far
abbrev pub invariant-loop-named : goal.invariant-loop-named
invariant-loop-named l = l.text.items ≡ flat_map transcript_of (map listed_as (take l.named-index l.instances))

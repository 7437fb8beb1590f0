use Rattle.std.proofs.Common.{◌≡◌, map, drop}
use Rattle.cq_program.specs.Named.{listed_as}
use Rattle.cq_run.specs.Asked.{instance_named}
use Rattle.cq_run.proofs.question.find_instance.Given as goal

-- no instance so far has the name
abbrev pub invariant-loop-named : goal.invariant-loop-named
invariant-loop-named l =
    instance_named l.name (map listed_as l.instances) ≡ instance_named l.name (map listed_as (drop l.named-index l.instances))

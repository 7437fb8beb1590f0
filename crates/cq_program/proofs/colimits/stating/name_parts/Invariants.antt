use Rattle.std.proofs.Common.{◌≡◌, length, map, take}
use Rattle.cq_program.specs.Colimits.{included}
use Rattle.cq_environment.specs.Environment.{part_meant}
use Rattle.cq_program.specs.Views.{useds_meant}
use Rattle.cq_program.proofs.colimits.stating.name_parts.Given as goal

-- the inclusions of as many parts as were looked at
abbrev pub invariant-loop-part : goal.invariant-loop-part
invariant-loop-part l =
    map part_meant l.named.items
    ≡ included (useds_meant (take (length l.yielded) l.parts)) (map (λ inclusion. inclusion.value) (take (length l.yielded) l.inclusions))

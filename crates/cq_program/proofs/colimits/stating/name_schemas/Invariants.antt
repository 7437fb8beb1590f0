use Rattle.std.proofs.Common.{◌≡◌, map, take}
use Rattle.cq_program.specs.Colimits.{named_schemas}
use Rattle.cq_program.specs.Views.{useds_meant}
use Rattle.cq_program.proofs.colimits.stating.name_schemas.Given as goal

abbrev pub invariant-loop-part : goal.invariant-loop-part
invariant-loop-part l = map (λ part. (part.0, part.1.value)) l.named.items ≡ named_schemas (useds_meant (take l.part-index l.parts))

use Rattle.std.proofs.Common.{◌≡◌, map, drop}
use Rattle.cq_program.specs.Colimits.{part_named}
use Rattle.cq_environment.specs.Environment.{part_meant}
use Rattle.cq_program.proofs.colimits.stating.find_part.Given as goal

-- no part so far stands under the name
abbrev pub invariant-loop-part : goal.invariant-loop-part
invariant-loop-part l = part_named (map part_meant l.parts) l.name ≡ part_named (map part_meant (drop l.part-index l.parts)) l.name

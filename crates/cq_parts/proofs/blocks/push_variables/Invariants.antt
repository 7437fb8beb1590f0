use Rattle.std.proofs.Common.{◌≡◌, ◌++◌, take}
use Rattle.std.specs.List.{flat_map}
use Rattle.cq_parts.specs.Parts.{variable_parts}
use Rattle.cq_parts.proofs.blocks.push_variables.Given as goal

abbrev pub invariant-loop-group : goal.invariant-loop-group
invariant-loop-group l = l.parts.items ≡ l.initial.parts.items ++ flat_map (variable_parts l.block) (take l.group-index l.groups)

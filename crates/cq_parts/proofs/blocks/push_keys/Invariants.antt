use Rattle.std.proofs.Common.{◌≡◌, ◌++◌, take}
use Rattle.std.specs.List.{flat_map}
use Rattle.cq_parts.specs.Parts.{key_clauses}
use Rattle.cq_parts.proofs.blocks.push_keys.Given as goal

abbrev pub invariant-loop-key : goal.invariant-loop-key
invariant-loop-key l = l.parts.items ≡ l.initial.parts.items ++ flat_map (key_clauses l.block) (take l.key-index l.keys)

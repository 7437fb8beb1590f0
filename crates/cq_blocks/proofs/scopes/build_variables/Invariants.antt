use Rattle.std.proofs.Common.{◌≡◌, map, take}
use Rattle.cq_blocks.specs.Blocks.{scopes_of}
use Rattle.cq_blocks.proofs.scopes.build_variables.Given as goal

abbrev pub invariant-loop-part : goal.invariant-loop-part
invariant-loop-part l = map (λ list. list.items) l.lists.items ≡ scopes_of l.source l.entities l.count (take l.part-index l.parts)

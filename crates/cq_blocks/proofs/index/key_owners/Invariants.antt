use Rattle.std.proofs.Common.{◌≡◌, map, take}
use Rattle.cq_blocks.specs.Index.{key_owner}
use Rattle.cq_blocks.proofs.index.key_owners.Given as goal

abbrev pub invariant-loop-part : goal.invariant-loop-part
invariant-loop-part l = l.owners.items ≡ map (λ c. key_owner l.target l.none c.1) (take l.part-index l.clauses)

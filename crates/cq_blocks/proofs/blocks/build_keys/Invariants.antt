use Rattle.std.proofs.Common.{◌≡◌, map, take}
use Rattle.cq_blocks.specs.Blocks.{key_made}
use Rattle.cq_blocks.proofs.blocks.build_keys.Given as goal

abbrev pub invariant-loop-key : goal.invariant-loop-key
invariant-loop-key l = l.made.items ≡ map (key_made l.making.source.now l.making.target.now l.making.scopes.now l.making.clauses.now) (take l.key-index l.keys)

use Rattle.std.proofs.Common.{◌≡◌, ◌++◌, map, take}
use Rattle.cq_instance.specs.Numbers.{key_made}
use Rattle.cq_instance.proofs.canonical.equations.push_keys.Given as goal

abbrev pub invariant-loop-key : goal.invariant-loop-key
invariant-loop-key l = l.made.items ≡ l.initial.made.items ++ map (key_made l.sheet l.numbers l.row.generator l.row.number) (take l.key-index l.keys)

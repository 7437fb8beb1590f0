use Rattle.std.proofs.Common.{◌≡◌, take}
use Rattle.cq_theory.specs.Paths.{path_keys}
use Rattle.cq_theory.proofs.lookup.paths.path_keys.Given as goal

abbrev pub invariant-loop-name : goal.invariant-loop-name
invariant-loop-name l = l.keys.items ≡ path_keys l.schema (take l.name-index l.names)

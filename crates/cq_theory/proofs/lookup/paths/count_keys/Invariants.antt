use Rattle.std.proofs.Common.{◌≡◌, ◌+◌, ◌≤◌, drop, length}
use Rattle.cq_theory.specs.Paths.{path_keys}
use Rattle.cq_theory.proofs.lookup.paths.count_keys.Given as goal

abbrev pub invariant-loop-name : goal.invariant-loop-name
invariant-loop-name l =
    (l.count ≤ l.name-index)
    × (l.count + length (path_keys l.schema (drop l.name-index l.names)) ≡ length (path_keys l.schema l.names))

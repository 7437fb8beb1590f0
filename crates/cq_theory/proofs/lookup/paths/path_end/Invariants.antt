use Rattle.std.proofs.Common.{◌≡◌, drop}
use Rattle.cq_theory.specs.Paths.{path_end}
use Rattle.cq_theory.proofs.lookup.paths.path_end.Given as goal

abbrev pub invariant-loop-name : goal.invariant-loop-name
invariant-loop-name l = path_end l.schema (drop l.name-index l.names) l.here ≡ path_end l.schema l.names l.entity

use Rattle.std.proofs.Common.{◌≡◌, take}
use Rattle.cq_theory.specs.Groups.{path_eq_sources}
use Rattle.cq_theory.proofs.beginnings.path_eq_sources.Given as goal

abbrev pub invariant-loop-path_eq : goal.invariant-loop-path_eq
invariant-loop-path_eq l = l.sources.items ≡ path_eq_sources (take l.path_eq-index l.path_eqs)

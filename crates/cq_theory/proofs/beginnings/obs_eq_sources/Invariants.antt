use Rattle.std.proofs.Common.{◌≡◌, take}
use Rattle.cq_theory.specs.Groups.{obs_eq_sources}
use Rattle.cq_theory.proofs.beginnings.obs_eq_sources.Given as goal

abbrev pub invariant-loop-obs_eq : goal.invariant-loop-obs_eq
invariant-loop-obs_eq l = l.sources.items ≡ obs_eq_sources (take l.obs_eq-index l.obs_eqs)

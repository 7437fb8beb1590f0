use Rattle.std.proofs.Common.{◌≡◌}
use Rattle.cq_theory.specs.Canonical.{below}
use Rattle.cq_colimit.proofs.classes.alone.Given as goal

abbrev pub invariant-loop-entity : goal.invariant-loop-entity
invariant-loop-entity l = l.made.items ≡ below l.entity

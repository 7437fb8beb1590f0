use Rattle.std.proofs.Common.{◌≡◌, ◌++◌, map}
use Rattle.cq_theory.specs.Canonical.{below}
use Rattle.cq_theory.specs.declared.value.Value.TheVariants.{Null}
use Rattle.cq_theory.specs.Tables.{AtValue}
use Rattle.cq_instance.specs.Standing.{meaning}
use Rattle.cq_instance.proofs.canonical.generators.push_null_standings.Given as goal

abbrev pub invariant-loop-label : goal.invariant-loop-label
invariant-loop-label l = map meaning l.made.items ≡ map meaning l.initial.made.items ++ map (λ n. AtValue (Null n)) (below l.label)

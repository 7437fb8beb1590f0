use Rattle.std.proofs.Common.{◌≡◌, map}
use Rattle.cq_theory.specs.Canonical.{below}
use Rattle.cq_theory.specs.declared.value.Value.TheVariants.{Null}
use Rattle.cq_transform.proofs.identities.own_nulls.Given as goal

abbrev pub invariant-loop-label : goal.invariant-loop-label
invariant-loop-label l = l.nulls.items ≡ map Null (below l.label)

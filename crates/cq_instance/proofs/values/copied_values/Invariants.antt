use Rattle.std.proofs.Common.{◌≡◌, take}
use Rattle.cq_instance.proofs.values.copied_values.Given as goal

abbrev pub invariant-loop-value : goal.invariant-loop-value
invariant-loop-value l = l.made.items ≡ take l.value-index l.values

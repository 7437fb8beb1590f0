use Rattle.std.proofs.Common.{◌≡◌, ◌∷◌, map, take, slice_index}
use Rattle.cq_flat.proofs.entering.function_key.Given as goal

abbrev pub invariant-loop-arg : goal.invariant-loop-arg
invariant-loop-arg l = l.numbers.items ≡ 1 ∷ l.function ∷ map (slice_index l.classes) (take l.arg-index l.args)

use Rattle.std.proofs.Common.{◌≡◌, false, take, map}
use Rattle.std.specs.List.{list_any}
use Rattle.cq_theory.specs.Resolve.{has_reserved}
use Rattle.cq_theory.proofs.lookup.passes.+reserved.Given as goal

abbrev pub invariant-has_reserved_part-loop-arg : goal.invariant-has_reserved_part-loop-arg
invariant-has_reserved_part-loop-arg l = list_any (λ b. b) (map (has_reserved l.schema) (take l.arg-index l.args)) ≡ false

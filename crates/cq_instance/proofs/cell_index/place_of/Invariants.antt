use Rattle.std.proofs.Common.{◌≡◌, false, take}
use Rattle.std.specs.Prelude.{All}
use Rattle.cq_instance.specs.SameValue.{same_value}
use Rattle.cq_instance.proofs.cell_index.place_of.Given as goal

abbrev pub invariant-loop-place : goal.invariant-loop-place
invariant-loop-place l = All (λ group. same_value group.value l.value ≡ false) (take l.place l.groups)

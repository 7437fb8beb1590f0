use Rattle.std.proofs.Common.{◌≡◌, false, take}
use Rattle.std.specs.List.{list_any}
use Rattle.cq_transform.specs.Nulls.{is_open}
use Rattle.cq_transform.proofs.found.has_open.Given as goal

abbrev pub invariant-loop-value : goal.invariant-loop-value
invariant-loop-value l = list_any (is_open l.found) (take l.value-index l.values) ≡ false

use Rattle.std.proofs.Common.{◌≡◌, map}
use Rattle.cq_program.proofs.colimits.stating.share_mappings.Given as goal

abbrev pub invariant-loop-mapping : goal.invariant-loop-mapping
invariant-loop-mapping l = map (λ mapping. mapping.value) l.shared.items ≡ l.yielded

use Rattle.std.proofs.Common.{◌≡◌, ◌+◌}
use Rattle.cq_instance.specs.Numbers.{start_of}
use Rattle.cq_instance.proofs.given.is_too_large.Given as goal

abbrev pub invariant-loop-entity : goal.invariant-loop-entity
invariant-loop-entity l = l.room + start_of l.counts l.entity + l.nulls ≡ 16000000

use Rattle.cq_check.proofs.OverEntity.{IsLeast}
use Rattle.cq_check.proofs.mappings.check_duties.Given as goal

abbrev pub invariant-loop-entity : goal.invariant-loop-entity
invariant-loop-entity l = IsLeast l.mapping l.entity l.bound l.depth l.first

use Rattle.std.proofs.Common.{◌≡◌}
use Rattle.cq_model.specs.Numbering.{types, starts}
use Rattle.cq_model.proofs.nulls.count_nulls.Given as goal

abbrev pub invariant-loop-entity : goal.invariant-loop-entity
invariant-loop-entity l = record {
  types_are : l.types.items ≡ types l.rows l.attributes l.targets l.entity;
  starts_are : l.starts.items ≡ starts l.rows l.attributes l.targets l.entity;
}

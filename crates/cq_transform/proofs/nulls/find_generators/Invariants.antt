use Rattle.std.proofs.Common.{map}
use Rattle.cq_instance.specs.InstanceData.{InstanceData}
use Rattle.cq_instance.specs.Standing.{meaning}
use Rattle.cq_transform.specs.Nulls.{Keeps, AreSpelled, AreGeneratorsClosed}
use Rattle.cq_transform.proofs.nulls.find_generators.Given as goal

abbrev pub invariant-loop-number : goal.invariant-loop-number
invariant-loop-number l = record {
  keeps : Keeps l.initial.found.items l.found.items;
  spelled : (j : InstanceData) → AreSpelled l.source j (map meaning l.standings) l.initial.found.items → AreSpelled l.source j (map meaning l.standings) l.found.items;
  closed : AreGeneratorsClosed l.source l.found.items l.number;
}

use Rattle.cq_flat.proofs.Relabelling.{IsRelabelling, in_class}
use Rattle.cq_flat.proofs.Staling.{AreStaling}
use Rattle.cq_flat.proofs.classes.relabel.Given as goal

abbrev pub invariant-loop-classes : goal.invariant-loop-classes
invariant-loop-classes l = record {
  classes : IsRelabelling l.initial.classes.items l.classes.items l.following l.from l.to l.node;
  stale : AreStaling l.initial.classes.items l.classes.items l.uses l.from l.initial.stale.items l.stale.items;
}

abbrev pub decreases-loop-classes : goal.decreases-loop-classes
decreases-loop-classes l = in_class l.from l.classes.items

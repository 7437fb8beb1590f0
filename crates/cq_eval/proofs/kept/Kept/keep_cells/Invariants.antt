use Rattle.std.proofs.Common.{◌≤◌, length}
use Rattle.cq_theory.specs.Tables.{Tables}
use Rattle.cq_eval.specs.Kept.{AreKept}
use Rattle.cq_eval.proofs.kept.Kept.keep_cells.Given as goal

abbrev pub invariant-loop-slot : goal.invariant-loop-slot
invariant-loop-slot l = record {
  size : l._slot ≤ length l.self.cells.items;
  kept : (M : Tables) → AreKept M l.initial.self → AreKept M l.self;
}

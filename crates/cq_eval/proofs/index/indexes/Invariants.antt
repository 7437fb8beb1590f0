use Rattle.std.proofs.Common.{◌≡◌, take, length}
use Rattle.cq_eval.specs.Index.{AreIndexes}
use Rattle.cq_eval.specs.Kept.{AreKept}
use Rattle.cq_eval.proofs.index.indexes.Given as goal

abbrev pub invariant-loop-test : goal.invariant-loop-test
invariant-loop-test l = record {
  kept : AreKept l.instance.tables l.kept;
  size : length l.made.items ≡ l.test-index;
  indexes : AreIndexes l.instance.tables l.counts (take l.test-index l.tests) l.made.items;
}

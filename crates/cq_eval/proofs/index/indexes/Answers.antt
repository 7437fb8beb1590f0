use Rattle.std.proofs.Common.{List, Option, [], ◌∷◌, ◌≡◌, length, take, sym, ap, subst, ◌∙◌, ◌+◌}
use Rattle.std.proofs.lemmas.List.{length-append}
use Rattle.cq_eval.specs.Index.{AreIndexes}
use Rattle.cq_eval.specs.declared.index.TestIndex.{TestIndex}
use Rattle.cq_eval.proofs.Indexed.{indexes_more}
use Rattle.cq_eval.proofs.index.indexes.Goals as goal

pub loop-test-preserved : goal.loop-test-preserved
loop-test-preserved c =
    let made : List (Option TestIndex) = c.loop-test.made.items in
    let new : Option TestIndex = c.in_ok-index_for.field-0 in
    let is = c.in_ok-push.ensures.items in
    let size : length c.loop-test.made.items ≡ c.loop-test.test-index = c.loop-test.invariant.size in
    record {
      kept = c.in_ok-index_for.ensures.kept;
      size = ap length is ∙ length-append made (new ∷ []) ∙ ap (λ n. n + 1) size;
      indexes = subst (AreIndexes c.args.instance.now.tables c.args.counts.now (take (c.loop-test.test-index + 1) c.args.tests.now)) (sym is)
          (indexes_more c.args.instance.now.tables c.args.counts.now c.args.tests.now made c.loop-test.test-index c.test-item.result new c.loop-test-test.true size c.test-item.is
          c.loop-test.invariant.indexes c.in_ok-index_for.ensures.index);
    }

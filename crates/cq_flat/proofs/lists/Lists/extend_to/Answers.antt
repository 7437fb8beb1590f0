use Rattle.std.proofs.Common.{[], get_or, ap, ◌∙◌}
use Rattle.cq_flat.proofs.Vectors.{lists, lists_more}
use Rattle.cq_flat.proofs.lists.Lists.extend_to.Goals as goal

pub loop-self-preserved : goal.loop-self-preserved
loop-self-preserved c = record {
  same = λ k.
      ap (λ vs. get_or (lists vs) k []) c.in_ok-push.ensures.items
      ∙ lists_more c.loop-self.self-inside.lists.items c.new.result c.new.ensures.items k
      ∙ c.loop-self.invariant.same k;
}

pub returns-clause-same : goal.returns-clause-same
returns-clause-same c = λ k. c.loop-self.invariant.same k ∙ ap (λ all. get_or all k []) c.self.view_is

use Rattle.std.proofs.Common.{[], ◌∷◌, ◌++◌, sym, ◌∙◌}
use Rattle.std.proofs.lemmas.List.{take_all, take_more}
use Rattle.cq_instance.proofs.values.copied_entries.Goals as goal

pub loop-entry-preserved : goal.loop-entry-preserved
loop-entry-preserved c =
    c.in_ok-push.ensures.items ∙ (λ k. c.loop-entry.invariant k ++ (c.in_ok-copied_entry.ensures ∙ c.entry-item.is) k ∷ [])
    ∙ sym (take_more c.args.entries.now c.loop-entry.entry-index c.entry-item.result c.loop-entry-test.true)

pub returns : goal.returns
returns c = c.from_vec.ensures ∙ c.loop-entry.invariant ∙ take_all c.loop-entry.entry-index c.args.entries.now c.loop-entry-test.false

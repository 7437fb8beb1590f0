use Rattle.std.proofs.Common.{ℕ, List, reverse, ap, subst, ◌∙◌}
use Rattle.cq_conflict.specs.Told.{AreSeen}
use Rattle.cq_conflict.proofs.Seen.{seen_reversed}
use Rattle.cq_conflict.proofs.chains.reversed.Goals as goal

pub returns : goal.returns
returns c cited seen =
    seen_reversed c.args.steps.now cited c.args.from.now
    (subst (λ (l : List ℕ). AreSeen c.args.steps.now cited l) (c.reverse.ensures.items ∙ ap reverse c.in_ok-waiting.ensures.items) seen)

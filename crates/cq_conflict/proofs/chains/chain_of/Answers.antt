use Rattle.std.proofs.Common.{ℕ, List, [], ◌∷◌, ◌++◌, ap, subst, ◌∙◌}
use Rattle.cq_conflict.specs.Told.{Leads}
use Rattle.cq_conflict.proofs.Seen.{pair_leads}
use Rattle.cq_conflict.proofs.chains.chain_of.Goals as goal

pub returns : goal.returns
returns c =
    pair_leads c.args.steps.now c.unchain.new.waiting.items c.args.first c.args.second
    (subst (λ (l : List ℕ). Leads c.args.steps.now c.unchain.new.waiting.items (l ++ c.args.first ∷ []))
    (c.in_ok-push.ensures.items ∙ ap (λ (l : List ℕ). l ++ c.args.second ∷ []) c.new-waiting.ensures.items)
    c.in_ok-unchain.ensures)

use Rattle.std.proofs.Common.{ℕ, List, [], ◌∷◌, ◌++◌, subst}
use Rattle.cq_conflict.specs.Told.{AreSeen}
use Rattle.cq_conflict.proofs.Seen.{chain_more}
use Rattle.cq_conflict.proofs.chains.unchain.Goals as goal

pub chain-preserved : goal.chain-preserved
chain-preserved c cited seen =
    chain_more c.args.steps.now c.chain.waiting.items (c.args.waiting.now.items ++ c.args.first ∷ []) c.chain.here c.in-Some.left c.in-Some.right c.in-Some.ensures c.chain.invariant cited
    (subst (λ (l : List ℕ). AreSeen c.args.steps.now cited (l ++ c.in-Some.left ∷ [])) c.in_ok-push-in-Some.ensures.items seen)

pub returns : goal.returns
returns c cited seen = c.chain.invariant cited (subst (λ (l : List ℕ). AreSeen c.args.steps.now cited l) c.in_ok-push.ensures.items seen)

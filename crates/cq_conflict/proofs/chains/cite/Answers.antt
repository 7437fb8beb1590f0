use Rattle.std.proofs.Common.{ℕ, List, [], ◌∷◌, sym, subst}
use Rattle.cq_conflict.specs.Told.{IsSeen, itself, turned}
use Rattle.cq_conflict.proofs.Seen.{seen_last, seen_more}
use Rattle.cq_conflict.proofs.chains.cite.Goals as goal

pub returns-then-is_reflexive-clause-seen : goal.returns-then-is_reflexive-clause-seen
returns-then-is_reflexive-clause-seen c = itself (c.is_reflexive.ensures c.if-is_reflexive.true)

pub returns-in_ok-push-in-Some-clause-seen : goal.returns-in_ok-push-in-Some-clause-seen
returns-in_ok-push-in-Some-clause-seen c =
    subst (λ (l : List ℕ). IsSeen c.args.steps.now l c.args.number) (sym c.in_ok-push-in-Some.ensures.items)
    (turned c.in-Some.other c.in-Some.ensures (seen_last c.args.steps.now c.args.cited.now.items c.in-Some.other))

pub returns-in_ok-push-in-Some-clause-more : goal.returns-in_ok-push-in-Some-clause-more
returns-in_ok-push-in-Some-clause-more c n seen =
    subst (λ (l : List ℕ). IsSeen c.args.steps.now l n) (sym c.in_ok-push-in-Some.ensures.items)
    (seen_more c.args.steps.now c.args.cited.now.items (c.in-Some.other ∷ []) n seen)

pub returns-in_ok-push-in-None-clause-seen : goal.returns-in_ok-push-in-None-clause-seen
returns-in_ok-push-in-None-clause-seen c =
    subst (λ (l : List ℕ). IsSeen c.args.steps.now l c.args.number) (sym c.in_ok-push-in-None.ensures.items)
    (seen_last c.args.steps.now c.args.cited.now.items c.args.number)

pub returns-in_ok-push-in-None-clause-more : goal.returns-in_ok-push-in-None-clause-more
returns-in_ok-push-in-None-clause-more c n seen =
    subst (λ (l : List ℕ). IsSeen c.args.steps.now l n) (sym c.in_ok-push-in-None.ensures.items)
    (seen_more c.args.steps.now c.args.cited.now.items (c.args.number ∷ []) n seen)

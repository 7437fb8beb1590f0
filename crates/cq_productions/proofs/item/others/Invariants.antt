use Rattle.std.proofs.Common.{◌≡◌, length}
use Rattle.cq_rules.specs.Rule.{read, many}
use Rattle.cq_productions.specs.Gives.{after_items}
use Rattle.cq_productions.proofs.item.others.Given as goal

-- the items so far, and then those of the rest
abbrev pub invariant-items : goal.invariant-items
invariant-items g l =
    after_items l.fn.items.items (read (many g.I.Production.rule) l.fn.at.tokens.now)
    ≡ after_items l.items.items (read (many g.I.Production.rule) l.rest.tokens.now)

abbrev pub decreases-items : goal.decreases-items
decreases-items g l = length l.rest.tokens.now

use Rattle.std.proofs.Common.{◌≡◌, ◌-◌, ◌≤◌, length}
use Rattle.cq_rules.specs.Outcome.{read_chain}
use Rattle.cq_productions.specs.Gives.{after_items}
use Rattle.cq_productions.proofs.names.chain.Given as goal

abbrev pub invariant-names : goal.invariant-names
invariant-names l = record {
  in_range : length l.names.items ≤ l.most;
  same : after_items l.fn.names.items (read_chain (l.most - length l.fn.names.items) l.at.tokens.now) ≡ after_items l.names.items (read_chain (l.most - length l.names.items) l.rest.tokens.now);
}

abbrev pub decreases-names : goal.decreases-names
decreases-names l = length l.rest.tokens.now

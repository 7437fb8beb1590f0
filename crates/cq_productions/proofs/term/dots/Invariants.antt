use Rattle.std.proofs.Common.{◌≡◌, ◌-◌, ◌≤◌, length}
use Rattle.cq_rules.specs.Outcome.{read_chain}
use Rattle.cq_rules.specs.Tree.{levels, after_dots}
use Rattle.cq_syntax.specs.Terms.{tree_of}
use Rattle.cq_productions.proofs.term.dots.Given as goal

abbrev pub invariant-names : goal.invariant-names
invariant-names l = record {
  in_range : l.levels ≤ l.most;
  known : l.levels ≡ levels (tree_of l.raw);
  same : after_dots (tree_of l.fn.first) (read_chain (l.most - l.fn.first_levels) l.at.tokens.now) ≡ after_dots (tree_of l.raw) (read_chain (l.most - l.levels) l.rest.tokens.now);
}

abbrev pub decreases-names : goal.decreases-names
decreases-names l = length l.rest.tokens.now

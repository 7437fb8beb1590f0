use Rattle.std.proofs.Common.{◌≡◌, ◌+◌, ◌*◌, ◌≤◌, length}
use Rattle.cq_rules.specs.Outcome.{mapped}
use Rattle.cq_rules.specs.Tree.{deepest, args_tree, read_args, read_others, read_term}
use Rattle.cq_syntax.specs.Terms.{tree_of}
use Rattle.cq_productions.specs.TermTrees.{trees_of}
use Rattle.cq_productions.proofs.Items.{after_args}
use Rattle.std.specs.Prelude.{map}
use Rattle.cq_productions.proofs.term.+terms.Given as goal

abbrev pub decreases-term : goal.decreases-term
decreases-term l = 3 * l.budget

abbrev pub decreases-arguments : goal.decreases-arguments
decreases-arguments l = 3 * l.budget + 1

abbrev pub decreases-base : goal.decreases-base
decreases-base l = 3 * l.budget + 2

abbrev pub invariant-arguments-items : goal.invariant-arguments-items
invariant-arguments-items l = record {
  fits : l.levels ≤ l.budget;
  known : l.levels ≡ deepest (trees_of l.args.items);
  same : mapped args_tree (read_args (read_term l.budget) l.fn.at.tokens.now) ≡ after_args (map tree_of l.args.items) (read_others (read_term l.budget) l.rest.tokens.now);
}

abbrev pub decreases-arguments-items : goal.decreases-arguments-items
decreases-arguments-items l = length l.rest.tokens.now

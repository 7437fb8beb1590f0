use Rattle.std.proofs.Common.{sym, ap, ◌∙◌}
use Rattle.cq_blocks.specs.Blocks.{clause_rule}
use Rattle.cq_blocks.proofs.clauses.rule_with.Goals as goal

pub returns-in-Test : goal.returns-in-Test
returns-in-Test c =
    c.test_rule.ensures c.args.making.now.target.now c.args.making.now.scopes.now c.args.entity
    ∙ ap (clause_rule c.args.making.now.source.now c.args.making.now.target.now c.args.making.now.scopes.now c.args.scope.now c.args.entity) (sym c.in-Test.is)

pub returns-in-Att : goal.returns-in-Att
returns-in-Att c =
    c.attribute_rule.ensures c.args.making.now.scopes.now
    ∙ ap (clause_rule c.args.making.now.source.now c.args.making.now.target.now c.args.making.now.scopes.now c.args.scope.now c.args.entity) (sym c.in-Att.is)

pub returns-in-Key : goal.returns-in-Key
returns-in-Key c =
    c.key_rule.ensures c.args.making.now.source.now c.args.making.now.scopes.now c.args.scope.now
    ∙ ap (clause_rule c.args.making.now.source.now c.args.making.now.target.now c.args.making.now.scopes.now c.args.scope.now c.args.entity) (sym c.in-Key.is)

use Rattle.cq_explain.proofs.Asked.{broken_makes_none, makes_it, one_made}
use Rattle.cq_explain.proofs.question.equation_over.Goals as goal

pub returns-then-breaks_rule-clause-only : goal.returns-then-breaks_rule-clause-only
returns-then-breaks_rule-clause-only c = λ equation makes.
    let firsts = c.in_ok-firsts.firsts in
    absurd (broken_makes_none c.args.schema.now c.args.generators.now c.args.left.now c.args.right.now firsts.scope.names firsts.scope.sorts c.as_slice-sorts.result.now firsts.numbers
    c.breaks_rule.result equation c.in_ok-firsts.ensures c.as_slice-sorts.ensures c.breaks_rule.ensures c.if-breaks_rule.true makes)

pub returns-clause-makes : goal.returns-clause-makes
returns-clause-makes c =
    let G = c.args.generators.now in
    let firsts = c.in_ok-firsts.firsts in
    makes_it c.args.schema.now G c.args.left.now c.args.right.now firsts.scope.names firsts.scope.sorts c.as_slice-sorts.result.now firsts.numbers
    c.breaks_rule.result c.in_ok-left.left c.in_ok-right.right c.make_equation.result c.in_ok-firsts.ensures c.as_slice-sorts.ensures
    c.breaks_rule.ensures c.if-breaks_rule.false (c.in_ok-left.ensures G c.in_ok-firsts.ensures) (c.in_ok-right.ensures G c.in_ok-firsts.ensures) c.make_equation.ensures

pub returns-clause-only : goal.returns-clause-only
returns-clause-only c = λ equation makes.
    one_made c.args.schema.now c.args.generators.now c.args.left.now c.args.right.now c.make_equation.result equation (returns-clause-makes c) makes

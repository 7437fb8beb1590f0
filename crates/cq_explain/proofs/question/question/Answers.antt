use Rattle.std.proofs.lemmas.Result.{err_from_is_err_and}
use Rattle.cq_explain.proofs.Asked.{asked_makes, makes_asked}
use Rattle.cq_explain.proofs.question.question.Goals as goal

pub returns-in_err-left-clause-only : goal.returns-in_err-left-clause-only
returns-in_err-left-clause-only c = λ equation asks.
    let p = err_from_is_err_and c.from_residual.result c.from_residual.ensures.1 in
    rw (p.1, p.2) (c.in_err-left.ensures.only asks.left_term asks.left_spelled)

pub returns-in_err-right-clause-only : goal.returns-in_err-right-clause-only
returns-in_err-right-clause-only c = λ equation asks.
    let p = err_from_is_err_and c.from_residual-in_err-right.result c.from_residual-in_err-right.ensures.1 in
    rw (p.1, p.2) (c.in_err-right.ensures.only asks.right_term asks.right_spelled)

pub returns-clause-asks : goal.returns-clause-asks
returns-clause-asks c =
    makes_asked c.args.schema.now c.args.presentation.now c.as_slice.result.now c.args.left.now c.args.right.now c.in_ok-left.left c.in_ok-right.right
    c.equation_over.result c.as_slice.ensures c.in_ok-left.ensures.term c.in_ok-right.ensures.term c.equation_over.ensures.makes

pub returns-clause-only : goal.returns-clause-only
returns-clause-only c = λ equation asks.
    c.equation_over.ensures.only equation
    (asked_makes c.args.schema.now c.args.presentation.now c.as_slice.result.now c.args.left.now c.args.right.now c.in_ok-left.left c.in_ok-right.right equation
    c.as_slice.ensures (λ other spelled. c.in_ok-left.ensures.only other spelled) (λ other spelled. c.in_ok-right.ensures.only other spelled) asks)

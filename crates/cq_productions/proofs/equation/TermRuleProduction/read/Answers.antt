use Rattle.std.proofs.lemmas.Result.{err_from_is_err_and}
use Rattle.cq_productions.proofs.Raws.{term_fails, term_gives}
use Rattle.cq_productions.proofs.equation.TermRuleProduction.read.Goals as goal

pub returns-in_err-raw : goal.returns-in_err-raw
returns-in_err-raw c =
    let p = err_from_is_err_and c.from_residual.result c.from_residual.ensures.1 in
    rw (p.1, p.2) (term_fails c.args.at.tokens.now c.in_err-raw.field-0.0 c.in_err-raw.ensures)

pub returns : goal.returns
returns c = rw c.place_of-place.ensures (term_gives c.args.at.tokens.now c.in_ok-raw.rest.tokens.now c.in_ok-raw.raw c.in_ok-raw.ensures)

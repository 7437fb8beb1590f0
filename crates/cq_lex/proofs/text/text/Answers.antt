use Rattle.std.proofs.lemmas.Result.{err_from_is_err_and}
use Rattle.cq_lex.proofs.Contents.{text_err, text_ok, plain_read}
use Rattle.cq_lex.proofs.text.text.Goals as goal

pub returns-in_err-name : goal.returns-in_err-name
returns-in_err-name c =
    let p = err_from_is_err_and c.from_residual.result c.from_residual.ensures.1 in
    let is = plain_read c.args.bytes.now c.split_at.result.0.now c.split_at.result.1.now c.in-Some-eq34-default.rest.now c.plain_len.result c.in-Some-eq34-default.field-0-0.now c.plain_len.ensures.len c.split_at.ensures.front c.split_at.ensures.back c.in-Some-eq34-default.ensures.cases.0 c.in-Some-eq34-default.field-0-0-test in
    rw (p.1, p.2) (text_err _ c.split_at.result.0.now c.in-Some-eq34-default.rest.now c.args.token.now is c.in_err-name.field-0.0 c.in_err-name.ensures)

pub returns-in-Some-eq34-default : goal.returns-in-Some-eq34-default
returns-in-Some-eq34-default c =
    let is = plain_read c.args.bytes.now c.split_at.result.0.now c.split_at.result.1.now c.in-Some-eq34-default.rest.now c.plain_len.result c.in-Some-eq34-default.field-0-0.now c.plain_len.ensures.len c.split_at.ensures.front c.split_at.ensures.back c.in-Some-eq34-default.ensures.cases.0 c.in-Some-eq34-default.field-0-0-test in
    text_ok _ c.split_at.result.0.now c.in-Some-eq34-default.rest.now c.args.token.now is c.in_ok-name.name c.in_ok-name.ensures

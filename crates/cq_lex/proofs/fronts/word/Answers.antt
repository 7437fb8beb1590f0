use Rattle.std.proofs.lemmas.Result.{err_from_is_err_and}
use Rattle.cq_lex.proofs.Runs.{word_err}
use Rattle.cq_lex.proofs.fronts.word.Goals as goal

pub returns-in_err-name : goal.returns-in_err-name
returns-in_err-name c =
    let p = err_from_is_err_and c.from_residual.result c.from_residual.ensures.1 in
    rw (p.1, p.2) (word_err c.args.bytes.now c.word_len.result c.word_len.ensures.len c.in_err-name.field-0.0 (rw c.split_at.ensures.front at c.in_err-name.ensures))

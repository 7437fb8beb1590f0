use Rattle.std.proofs.Common.{sym, ◌∙◌, arith}
use Rattle.cq_rows.proofs.Current.{row_now-past, row_now-listed}
use Rattle.cq_rows.proofs.renamings.Renamings.get.Goals as goal

pub returns-then-row-len-clause-value : goal.returns-then-row-len-clause-value
returns-then-row-len-clause-value c = sym (row_now-past c.args.self.now c.args.row (omega (arith, c.len.ensures, c.if-row-len.true)))

pub returns-clause-value : goal.returns-clause-value
returns-clause-value c = c.find.ensures.value ∙ sym (row_now-listed c.args.self.now c.args.row (omega (arith, c.len.ensures, c.if-row-len.false)))

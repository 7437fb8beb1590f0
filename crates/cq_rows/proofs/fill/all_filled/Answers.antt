use Rattle.std.proofs.Common.{arith}
use Rattle.cq_rows.proofs.Cells.{live_made}
use Rattle.cq_rows.proofs.fill.all_filled.Goals as goal

pub returns : goal.returns
returns c = λ r k d l s. c.loop-row.invariant r (omega (arith, live_made c.args.tables.now r c.requires.whole l)) l k d s

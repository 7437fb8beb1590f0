use Rattle.std.proofs.Common.{◌≡◌, arith, true}
use Rattle.std.proofs.lemmas.Grind.{common_steps}
use Rattle.cq_tables.specs.Content.{live_of}
use Rattle.cq_rows.proofs.Cells.{live_made}
use Rattle.cq_rows.proofs.Filling.{IsFilling-fill}
use Rattle.cq_rows.proofs.fill.fill.Goals as goal

pub loop-row-preserved : goal.loop-row-preserved
loop-row-preserved c =
    let live : live_of c.loop-row.tables c.loop-row.row ≡ true = grind (arith, common_steps) in
    let old = c.loop-row.invariant.extends.fresh c.loop-row.row (omega (arith, c.made-made.ensures)) live in
    IsFilling-fill c.args.tables.now c.loop-row.tables c.fill_row.new.tables c.loop-row.row old c.loop-row.invariant c.in_ok-fill_row.ensures.whole c.in_ok-fill_row.ensures.ok

pub returns-clause-ok : goal.returns-clause-ok
returns-clause-ok c = record {
  extends = c.loop-row.invariant.extends;
  origin = c.loop-row.invariant.origin;
  filled = λ r l. c.loop-row.invariant.filled r (omega (arith, c.made-made.ensures, live_made c.args.tables.now r c.requires.whole l)) l;
  sound = c.loop-row.invariant.sound;
}

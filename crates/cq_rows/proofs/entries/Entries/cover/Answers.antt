use Rattle.std.proofs.Common.{◌∷◌, [], length, ap, ◌∙◌, arith, length-append}
use Rattle.cq_rows.specs.Entries.{row_now}
use Rattle.cq_rows.proofs.Current.{row_now-pushed, rows_of-same}
use Rattle.cq_rows.proofs.entries.Entries.cover.Goals as goal

pub loop-row-preserved : goal.loop-row-preserved
loop-row-preserved c =
    let now = c.loop-row.self.renamings in
    let e = c.in_ok-push.ensures.ok in
    record {
      count = omega (arith, ap length e, length-append now (length now ∷ []), c.loop-row.invariant.count);
      first = c.loop-row.invariant.first;
      same = λ r. ap (λ n. row_now n r) e ∙ row_now-pushed now r ∙ c.loop-row.invariant.same r;
    }

pub returns : goal.returns
returns c = record {
  count = omega (arith, c.loop-row.invariant.count);
  same = c.loop-row.invariant.same;
  rows = rows_of-same c.args.self.now c.loop-row.self c.loop-row.invariant.first c.loop-row.invariant.same;
}

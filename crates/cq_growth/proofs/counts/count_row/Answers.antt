use Rattle.std.proofs.Common.{◌≡◌, ◌<◌, true, length, ap, arith, ◌∙◌}
use Rattle.std.proofs.lemmas.List.FromFn.{length-map-range_with_len}
use Rattle.cq_tables.specs.Content.{entities_of, live_of}
use Rattle.cq_growth.specs.Counts.{rows_below}
use Rattle.cq_growth.proofs.Counting.{counted_at, counted_one, rows_below-within}
use Rattle.cq_growth.proofs.counts.count_row.Goals as goal

pub count_one-requires-clause-place : goal.count_one-requires-clause-place
count_one-requires-clause-place c =
    let m = c.args.tables.now in
    let kind = c.requires.whole.kind c.args.row c.requires.row in
    let size = ap length c.requires.counted ∙ length-map-range_with_len (λ e. rows_below m e c.args.row) 0 (entities_of m) in
    omega (arith, kind, c.entity.ensures, size)

pub count_one-requires-clause-fits : goal.count_one-requires-clause-fits
count_one-requires-clause-fits c =
    let m = c.args.tables.now in
    let kind = c.requires.whole.kind c.args.row c.requires.row in
    let within : c.entity.result < entities_of m = omega (arith, kind, c.entity.ensures) in
    let at = counted_at m c.args.counts.now (entities_of m) c.args.row c.entity.result within c.requires.counted in
    omega (arith, at, rows_below-within m c.entity.result c.args.row, c.requires.fits)

pub returns : goal.returns
returns c =
    let m = c.args.tables.now in
    let kind = c.requires.whole.kind c.args.row c.requires.row in
    let within : c.entity.result < entities_of m = omega (arith, kind, c.entity.ensures) in
    let live : live_of m c.args.row ≡ true = cc (c.if-not-live.ensures, c.live.ensures) in
    c.count_one.ensures ∙ counted_one m c.args.counts.now (entities_of m) c.args.row c.entity.result live c.entity.ensures within c.requires.counted

use Rattle.std.proofs.Common.{◌≡◌, ◌∙◌, map, ap, sym, arith}
use Rattle.cq_tables.specs.Content.{made_of}
use Rattle.cq_theory.specs.Canonical.{below}
use Rattle.cq_growth.specs.Counts.{rows_below}
use Rattle.cq_growth.proofs.Counting.{counted_nothing}
use Rattle.cq_growth.proofs.counts.count_rows.Goals as goal

pub loop-row-init : goal.loop-row-init
loop-row-init c =
    let m = c.args.tables.now in
    c.in_ok-counts.ensures ∙ counted_nothing m c.args.entities ∙ ap (λ n. map (λ e. rows_below m e 0) (below n)) (sym c.requires.entities)

pub returns : goal.returns
returns c =
    let m = c.args.tables.now in
    let count : c.loop-row.row ≡ made_of m = omega (arith, c.loop-row-test.false, c.loop-row.auto.row-end, c.made-row-end.ensures) in
    c.loop-row.invariant ∙ (λ i. map (λ e. rows_below m e (count i)) (below (c.requires.entities i)))

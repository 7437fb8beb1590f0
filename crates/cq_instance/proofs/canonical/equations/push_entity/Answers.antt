use Rattle.std.proofs.Common.{◌≡◌, ◌<◌, slice_index, ap, ◌∙◌, arith, rules}
use Rattle.cq_instance.specs.Numbers.{row_made}
use Rattle.cq_instance.proofs.Pushed.{pushed_below}
use Rattle.cq_instance.proofs.canonical.equations.push_entity.Goals as goal

pub push_row-requires : goal.push_row-requires
push_row-requires c =
    let count : c.number_at-count.result ≡ slice_index c.args.sheet.now.counts c.args.entity = c.number_at-count.ensures ∙ ap (λ l. slice_index l c.args.entity) c.as_slice.ensures in
    let inside : c.loop-row.row < c.number_at-count.result = search rules in
    record { room = c.requires; row = omega (arith, inside, count) }

pub loop-row-preserved : goal.loop-row-preserved
loop-row-preserved c = pushed_below (row_made c.args.sheet.now c.args.numbers.now c.args.entity) c.args.made.now.items c.loop-row.made.items _ c.loop-row.row c.loop-row.invariant c.in_ok-push_row.ensures

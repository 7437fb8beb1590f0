use Rattle.std.proofs.Common.{sym, ◌∙◌}
use Rattle.cq_compose.proofs.Finishing.{large_at_none, large_at_some}
use Rattle.cq_compose.proofs.composite.is_large_block.Goals as goal

pub returns-in-None : goal.returns-in-None
returns-in-None c =
    let pair = c.args.pair.now in
    sym (large_at_none pair.first.now pair.second.now c.args.entity c.is_well_sorted.ensures c.args.block.now c.requires c.as_slice.result.now c.as_slice.ensures c.in_ok-found.found _ c.in_ok-found.ensures c.in-None.is)

pub returns-in-Some : goal.returns-in-Some
returns-in-Some c =
    let pair = c.args.pair.now in
    c.has_long_term.ensures
    ∙ sym (large_at_some pair.first.now pair.second.now c.args.entity c.is_well_sorted.ensures c.args.block.now c.requires c.as_slice.result.now c.as_slice.ensures c.in_ok-found.found _ c.in_ok-found.ensures c.in-Some.starts c.in-Some.is (λ p. p.1))

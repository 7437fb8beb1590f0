use Rattle.std.proofs.Common.{Bool, true, false, ◌≡◌, IfOk, sym, subst, ◌∙◌}
use Rattle.std.specs.Prelude.{MatchOption}
use Rattle.cq_compose.specs.Composite.{composite_block}
use Rattle.cq_compose.proofs.Finishing.{told_at, large_at_none, large_at_some, components_few, starts_are}
use Rattle.cq_compose.proofs.composite.compose_block.Goals as goal

pub build_small-requires-clause-frame : goal.build_small-requires-clause-frame
build_small-requires-clause-frame c =
    let pair = c.args.pair.now in
    record {
      starts = starts_are pair.first.now pair.second.now c.args.entity c.args.block.now c.requires c.as_slice.result.now c.as_slice.ensures c.in-Some.starts.items c.as_slice-in-Some.result.now c.as_slice-in-Some.ensures.value
          (told_at pair.first.now pair.second.now c.args.entity c.is_well_sorted.ensures c.args.block.now c.requires c.as_slice.result.now c.as_slice.ensures c.in_ok-found.found _ c.in_ok-found.ensures c.in-Some.starts c.in-Some.is).0;
      few = components_few pair.first.now pair.second.now c.args.entity c.is_well_sorted.ensures c.args.block.now c.requires c.as_slice.result.now c.as_slice.ensures c.in_ok-found.found _ c.in_ok-found.ensures c.in-Some.starts c.in-Some.is (λ p. p.1);
    }

pub returns-in-None : goal.returns-in-None
returns-in-None c =
    let pair = c.args.pair.now in
    large_at_none pair.first.now pair.second.now c.args.entity c.is_well_sorted.ensures c.args.block.now c.requires c.as_slice.result.now c.as_slice.ensures c.in_ok-found.found _ c.in_ok-found.ensures c.in-None.is

pub returns-in-Some : goal.returns-in-Some
returns-in-Some c =
    let pair = c.args.pair.now in
    subst (λ (v : Bool). IfOk c.build_small.result (λ found. MatchOption found (v ≡ true) (λ made. (made ≡ composite_block pair.first.now pair.second.now (c.args.entity, c.args.block.now)) × (v ≡ false))))
    (sym (large_at_some pair.first.now pair.second.now c.args.entity c.is_well_sorted.ensures c.args.block.now c.requires c.as_slice.result.now c.as_slice.ensures c.in_ok-found.found _ c.in_ok-found.ensures c.in-Some.starts c.in-Some.is (λ p. p.1)))
    c.build_small.ensures

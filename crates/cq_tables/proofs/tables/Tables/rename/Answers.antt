use Rattle.std.proofs.Common.{◌≡◌, ◌<◌, length, arith, sym, ap, subst, refl, ◌∙◌}
use Rattle.std.proofs.lemmas.List.{get_or_read}
use Rattle.cq_tables.specs.Content.{entity_of}
use Rattle.cq_tables.specs.Places.{width_of}
use Rattle.cq_tables.specs.Shape.{Shape}
use Rattle.cq_tables.proofs.Reading.{live_made, kind_in, start_in, starts_apart}
use Rattle.cq_tables.proofs.Renamed.{walks_as, renamed_as, given_as}
use Rattle.cq_tables.proofs.tables.Tables.rename.Goals as goal

pub index-requires : goal.index-requires
index-requires c =
    let to = rw (← c.self.view_is) at c.requires.to in
    omega (arith, live_made _ _ _ _ _ _ _ c.self.invariant.laid c.args.to c.self.invariant.whole to, c.self.inside.kinds.ok.0)

pub width-width-requires : goal.width-width-requires
width-width-requires c =
    let to = rw (← c.self.view_is) at c.requires.to in
    let made = live_made _ _ _ _ _ _ _ c.self.invariant.laid c.args.to c.self.invariant.whole to in
    let kind = get_or_read c.self.inside.kinds.items c.args.to c.index.result.now made c.index.ensures 0 in
    subst (λ (p : Shape). c.index.result.now < p.entities) (sym c.deref.ensures)
    (kind_in c.self.inside.plan.value.entities _ _ _ _ _ _ c.self.invariant.laid c.args.to c.index.result.now c.self.invariant.whole made kind)

pub index-requires-2 : goal.index-requires-2
index-requires-2 c =
    let to = rw (← c.self.view_is) at c.requires.to in
    omega (arith, live_made _ _ _ _ _ _ _ c.self.invariant.laid c.args.to c.self.invariant.whole to, c.self.invariant.laid.one_start, c.self.inside.starts.ok.0)

pub index-requires-3 : goal.index-requires-3
index-requires-3 c =
    let from = rw (← c.self.view_is) at c.requires.from in
    omega (arith, live_made _ _ _ _ _ _ _ c.self.invariant.laid c.args.from c.self.invariant.whole from, c.self.invariant.laid.one_start, c.self.inside.starts.ok.0)

pub count-count-requires : goal.count-count-requires
count-count-requires c =
    let from = rw (← c.self.view_is) at c.requires.from in
    omega (arith, live_made _ _ _ _ _ _ _ c.self.invariant.laid c.args.from c.self.invariant.whole from, c.self.invariant.laid.one_count)

pub reserve-requires : goal.reserve-requires
reserve-requires c =
    let to = rw (← c.self.view_is) at c.requires.to in
    omega (arith, live_made _ _ _ _ _ _ _ c.self.invariant.laid c.args.to c.self.invariant.whole to, c.self.invariant.laid.one_count)

pub rename_cells-requires : goal.rename_cells-requires
rename_cells-requires c =
    let from = rw (← c.self.view_is) at c.requires.from in
    let to = rw (← c.self.view_is) at c.requires.to in
    record {
      differ = c.requires.differ;
      from = rw c.reserve.ensures.counts (omega (arith, live_made _ _ _ _ _ _ _ c.self.invariant.laid c.args.from c.self.invariant.whole from, c.self.invariant.laid.one_count));
      to = rw c.reserve.ensures.counts (omega (arith, live_made _ _ _ _ _ _ _ c.self.invariant.laid c.args.to c.self.invariant.whole to, c.self.invariant.laid.one_count));
      room = rw (c.reserve.ensures.counts, ← c.count-count.ensures.value) c.in_ok-reserve.ensures.ok;
    }

pub join_cells-requires : goal.join_cells-requires
unfolding entity_of
join_cells-requires c =
    let from = rw (← c.self.view_is) at c.requires.from in
    let to = rw (← c.self.view_is) at c.requires.to in
    let same = rw (← c.self.view_is) at c.requires.entity in
    let made_from = live_made _ _ _ _ _ _ _ c.self.invariant.laid c.args.from c.self.invariant.whole from in
    let made_to = live_made _ _ _ _ _ _ _ c.self.invariant.laid c.args.to c.self.invariant.whole to in
    let kind = get_or_read c.self.inside.kinds.items c.args.to c.index.result.now made_to c.index.ensures 0 in
    let wide : c.width-width.result ≡ width_of c.self.inside.plan.value.keys c.index.result.now = c.width-width.ensures ∙ ap (λ (p : Shape). width_of p.keys c.index.result.now) c.deref.ensures in
    let width = rw kind at wide in
    let into = get_or_read c.self.inside.starts.items c.args.to c.index-2.result.now (omega (arith, made_to, c.self.invariant.laid.one_start)) c.index-2.ensures 0 in
    let out = get_or_read c.self.inside.starts.items c.args.from c.index-3.result.now (omega (arith, made_from, c.self.invariant.laid.one_start)) c.index-3.ensures 0 in
    let len = c.rename_cells.ensures.len ∙ ap length c.reserve.ensures.cells in
    record {
      into = rw len (start_in c.self.inside.plan.value.entities _ _ _ _ _ _ c.self.invariant.laid c.args.to _ _ made_to into width);
      out = rw len (start_in c.self.inside.plan.value.entities _ _ _ _ _ _ c.self.invariant.laid c.args.from _ _ made_from out (rw same width));
      fits = rw len c.self.invariant.laid.fits;
      apart = starts_apart c.self.inside.plan.value.entities _ _ _ _ _ _ c.self.invariant.laid c.args.to c.args.from _ _ _ (λ e. c.requires.differ (sym e)) made_to made_from (sym same) into out width;
      room = omega (arith, c.in_ok-given.ensures.len, c.in_ok-given.ensures.exact);
    }

pub index_mut-requires : goal.index_mut-requires
index_mut-requires c =
    let from = rw (← c.self.view_is) at c.requires.from in
    omega (arith, live_made _ _ _ _ _ _ _ c.self.invariant.laid c.args.from c.self.invariant.whole from, c.self.invariant.laid.one_flag, c.self.inside.alive.ok.0)

pub invariant_of-self-2 : goal.invariant_of-self-2
invariant_of-self-2 c =
    let from = rw (← c.self.view_is) at c.requires.from in
    let to = rw (← c.self.view_is) at c.requires.to in
    let same = rw (← c.self.view_is) at c.requires.entity in
    let made_from = live_made _ _ _ _ _ _ _ c.self.invariant.laid c.args.from c.self.invariant.whole from in
    let made_to = live_made _ _ _ _ _ _ _ c.self.invariant.laid c.args.to c.self.invariant.whole to in
    let kind = get_or_read c.self.inside.kinds.items c.args.to c.index.result.now made_to c.index.ensures 0 in
    let into = get_or_read c.self.inside.starts.items c.args.to c.index-2.result.now (omega (arith, made_to, c.self.invariant.laid.one_start)) c.index-2.ensures 0 in
    let out = get_or_read c.self.inside.starts.items c.args.from c.index-3.result.now (omega (arith, made_from, c.self.invariant.laid.one_start)) c.index-3.ensures 0 in
    let wide : c.width-width.result ≡ width_of c.self.inside.plan.value.keys c.index.result.now = c.width-width.ensures ∙ ap (λ (p : Shape). width_of p.keys c.index.result.now) c.deref.ensures in
    let walks = walks_as _ _ _ _ _ _ _ _ _ c.args.from c.args.to _ _ _ _ c.self.invariant.laid made_from made_to kind wide into out c.reserve.ensures.cells c.rename_cells.ensures.cells c.rename_cells.ensures.len
    c.join_cells.ensures.joined c.join_cells.ensures.emptied c.join_cells.ensures.others c.join_cells.ensures.len in
    let counts = c.join_cells.ensures.counts ∙ c.rename_cells.ensures.counts ∙ ap length c.reserve.ensures.counts in
    let a = renamed_as _ _ _ _ _ _ _ _ _ _ _ c.args.from c.args.to _ _ _ c.self.invariant.laid c.self.invariant.whole from to c.requires.differ same walks refl counts in
    record { whole = a.whole; laid = a.laid }

pub returns-clause-ok : goal.returns-clause-ok
returns-clause-ok c =
    let from = rw (← c.self.view_is) at c.requires.from in
    let to = rw (← c.self.view_is) at c.requires.to in
    let same = rw (← c.self.view_is) at c.requires.entity in
    let made_from = live_made _ _ _ _ _ _ _ c.self.invariant.laid c.args.from c.self.invariant.whole from in
    let made_to = live_made _ _ _ _ _ _ _ c.self.invariant.laid c.args.to c.self.invariant.whole to in
    let kind = get_or_read c.self.inside.kinds.items c.args.to c.index.result.now made_to c.index.ensures 0 in
    let into = get_or_read c.self.inside.starts.items c.args.to c.index-2.result.now (omega (arith, made_to, c.self.invariant.laid.one_start)) c.index-2.ensures 0 in
    let out = get_or_read c.self.inside.starts.items c.args.from c.index-3.result.now (omega (arith, made_from, c.self.invariant.laid.one_start)) c.index-3.ensures 0 in
    let wide : c.width-width.result ≡ width_of c.self.inside.plan.value.keys c.index.result.now = c.width-width.ensures ∙ ap (λ (p : Shape). width_of p.keys c.index.result.now) c.deref.ensures in
    let walks = walks_as _ _ _ _ _ _ _ _ _ c.args.from c.args.to _ _ _ _ c.self.invariant.laid made_from made_to kind wide into out c.reserve.ensures.cells c.rename_cells.ensures.cells c.rename_cells.ensures.len
    c.join_cells.ensures.joined c.join_cells.ensures.emptied c.join_cells.ensures.others c.join_cells.ensures.len in
    let counts = c.join_cells.ensures.counts ∙ c.rename_cells.ensures.counts ∙ ap length c.reserve.ensures.counts in
    let a = renamed_as _ _ _ _ _ _ _ _ _ _ _ c.args.from c.args.to _ _ _ c.self.invariant.laid c.self.invariant.whole from to c.requires.differ same walks refl counts in
    rw (← c.self.view_is) a.renames

pub returns-clause-whole : goal.returns-clause-whole
returns-clause-whole c =
    let from = rw (← c.self.view_is) at c.requires.from in
    let to = rw (← c.self.view_is) at c.requires.to in
    let same = rw (← c.self.view_is) at c.requires.entity in
    let made_from = live_made _ _ _ _ _ _ _ c.self.invariant.laid c.args.from c.self.invariant.whole from in
    let made_to = live_made _ _ _ _ _ _ _ c.self.invariant.laid c.args.to c.self.invariant.whole to in
    let kind = get_or_read c.self.inside.kinds.items c.args.to c.index.result.now made_to c.index.ensures 0 in
    let into = get_or_read c.self.inside.starts.items c.args.to c.index-2.result.now (omega (arith, made_to, c.self.invariant.laid.one_start)) c.index-2.ensures 0 in
    let out = get_or_read c.self.inside.starts.items c.args.from c.index-3.result.now (omega (arith, made_from, c.self.invariant.laid.one_start)) c.index-3.ensures 0 in
    let wide : c.width-width.result ≡ width_of c.self.inside.plan.value.keys c.index.result.now = c.width-width.ensures ∙ ap (λ (p : Shape). width_of p.keys c.index.result.now) c.deref.ensures in
    let walks = walks_as _ _ _ _ _ _ _ _ _ c.args.from c.args.to _ _ _ _ c.self.invariant.laid made_from made_to kind wide into out c.reserve.ensures.cells c.rename_cells.ensures.cells c.rename_cells.ensures.len
    c.join_cells.ensures.joined c.join_cells.ensures.emptied c.join_cells.ensures.others c.join_cells.ensures.len in
    let counts = c.join_cells.ensures.counts ∙ c.rename_cells.ensures.counts ∙ ap length c.reserve.ensures.counts in
    let a = renamed_as _ _ _ _ _ _ _ _ _ _ _ c.args.from c.args.to _ _ _ c.self.invariant.laid c.self.invariant.whole from to c.requires.differ same walks refl counts in
    a.whole

pub returns-clause-given : goal.returns-clause-given
returns-clause-given c =
    let from = rw (← c.self.view_is) at c.requires.from in
    let to = rw (← c.self.view_is) at c.requires.to in
    let same = rw (← c.self.view_is) at c.requires.entity in
    let made_from = live_made _ _ _ _ _ _ _ c.self.invariant.laid c.args.from c.self.invariant.whole from in
    let made_to = live_made _ _ _ _ _ _ _ c.self.invariant.laid c.args.to c.self.invariant.whole to in
    let kind = get_or_read c.self.inside.kinds.items c.args.to c.index.result.now made_to c.index.ensures 0 in
    let into = get_or_read c.self.inside.starts.items c.args.to c.index-2.result.now (omega (arith, made_to, c.self.invariant.laid.one_start)) c.index-2.ensures 0 in
    let out = get_or_read c.self.inside.starts.items c.args.from c.index-3.result.now (omega (arith, made_from, c.self.invariant.laid.one_start)) c.index-3.ensures 0 in
    let wide : c.width-width.result ≡ width_of c.self.inside.plan.value.keys c.index.result.now = c.width-width.ensures ∙ ap (λ (p : Shape). width_of p.keys c.index.result.now) c.deref.ensures in
    let walks = walks_as _ _ _ _ _ _ _ _ _ c.args.from c.args.to _ _ _ _ c.self.invariant.laid made_from made_to kind wide into out c.reserve.ensures.cells c.rename_cells.ensures.cells c.rename_cells.ensures.len
    c.join_cells.ensures.joined c.join_cells.ensures.emptied c.join_cells.ensures.others c.join_cells.ensures.len in
    let given = rw c.in_ok-given.ensures.items at c.join_cells.ensures.given in
    rw (← c.self.view_is) (given ∙ given_as _ _ _ _ _ _ _ c.args.from c.args.to _ _ _ made_from made_to same walks)

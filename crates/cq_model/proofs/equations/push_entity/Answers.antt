use Rattle.std.proofs.Common.{ℕ, List, [], ◌≡◌, ◌∙◌, true, length, take, get_or, slice_index_or, sym, ap, subst, arith}
use Rattle.std.proofs.lemmas.List.{take_more, take_all}
use Rattle.cq_tables.specs.Content.{live_of}
use Rattle.cq_tables.specs.Content.{entity_of as row_entity}
use Rattle.cq_theory.specs.Groups.{positions, obs_eq_sources}
use Rattle.cq_model.specs.Equating.{AddsAtRow}
use Rattle.cq_model.proofs.AddedSides.{AreAtRows, rows_none, rows_more}
use Rattle.cq_model.proofs.NumberedEquations.{group_is}
use Rattle.cq_model.proofs.PushedTerms.{HavePlaces-wider}
use Rattle.cq_model.proofs.equations.push_entity.Goals as goal

pub loop-row-init : goal.loop-row-init
loop-row-init c = rows_none c.args.ground.now.schema.now c.args.ground.now.tables.now c.args.ground.now.places.now c.args.entity c.args.list.now

pub push_row-requires : goal.push_row-requires
push_row-requires c =
    let row : ℕ = get_or c.args.rows.now c.loop-row.row-index 0 in
    let is : (live_of c.args.ground.now.tables.now row ≡ true) × (row_entity c.args.ground.now.tables.now row ≡ c.args.entity) = c.requires.rows c.loop-row.row-index 0 c.loop-row-test.true in
    record {
      places = HavePlaces-wider c.args.ground.now.schema.now c.args.ground.now.tables.now c.args.ground.now.places.now (length c.args.list.now.nodes) (length c.loop-row.list.nodes) c.loop-row.invariant.grows c.requires.places;
      live = is.0;
      numbers = c.group_at-numbers.ensures ∙ ap (λ (l : List (List ℕ)). slice_index_or l c.args.entity []) c.as_slice.ensures
          ∙ group_is c.args.ground.now.schema.now c.is_well_sorted.ensures c.args.groups.now (c.requires.groups (omega (arith, c.loop-row-test.true))) c.args.entity ∙ ap (positions (obs_eq_sources c.args.ground.now.schema.now.obs_eqs)) (sym is.1);
    }

pub loop-row-preserved : goal.loop-row-preserved
loop-row-preserved c =
    let i : ℕ = c.loop-row.row-index in
    let rows : List ℕ = c.args.rows.now in
    let row : ℕ = get_or rows i 0 in
    let is : (live_of c.args.ground.now.tables.now row ≡ true) × (row_entity c.args.ground.now.tables.now row ≡ c.args.entity) = c.requires.rows i 0 c.loop-row-test.true in
    let added : AddsAtRow c.args.ground.now.schema.now c.args.ground.now.tables.now c.args.ground.now.places.now c.args.entity c.args.ground.now.schema.now.obs_eqs row c.loop-row.list c.push_row.new.list =
    subst (λ e. AddsAtRow c.args.ground.now.schema.now c.args.ground.now.tables.now c.args.ground.now.places.now e c.args.ground.now.schema.now.obs_eqs row c.loop-row.list c.push_row.new.list) is.1 c.in_ok-push_row.ensures.added in
    let more = rows_more c.args.ground.now.schema.now c.args.ground.now.tables.now c.args.ground.now.places.now c.args.entity row c.args.list.now c.loop-row.list c.push_row.new.list (take i rows) c.loop-row.invariant c.in_ok-push_row.ensures.grows added in
    subst (λ (l : List ℕ). AreAtRows c.args.ground.now.schema.now c.args.ground.now.tables.now c.args.ground.now.places.now c.args.entity l c.args.list.now c.push_row.new.list) (sym (take_more rows i 0 c.loop-row-test.true)) more

pub returns-clause-added : goal.returns-clause-added
returns-clause-added c =
    let all : take c.loop-row.row-index c.args.rows.now ≡ c.args.rows.now = take_all c.loop-row.row-index c.args.rows.now c.loop-row-test.false in
    let are = subst (λ (l : List ℕ). AreAtRows c.args.ground.now.schema.now c.args.ground.now.tables.now c.args.ground.now.places.now c.args.entity l c.args.list.now c.loop-row.list) all c.loop-row.invariant in
    are.added

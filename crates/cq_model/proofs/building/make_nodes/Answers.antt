use Rattle.std.proofs.Common.{ℕ, List, Some, true, ◌≡◌, length, sym, ap, subst, arith}
use Rattle.std.specs.Prelude.{slice_get}
use Rattle.cq_tables.specs.Content.{Content, live_of}
use Rattle.cq_tables.specs.Content.{entity_of as row_entity}
use Rattle.cq_theory.specs.declared.presentation.Presentation.{Presentation}
use Rattle.cq_theory.specs.SchemaData.{SchemaData as Schema}
use Rattle.cq_names.specs.declared.numbers.NumberedRows.{NumberedRows}
use Rattle.cq_model.specs.BuiltParts.{AreLeaves}
use Rattle.cq_model.specs.Equating.{AddsObservations}
use Rattle.cq_names.specs.LeastNames.{rows_at, AreNumbered}
use Rattle.cq_model.proofs.AllNodes.{built_nodes}
use Rattle.cq_names.proofs.NamedRows.{numbered_rows}
use Rattle.cq_model.proofs.PushedTerms.{HavePlaces-wider}
use Rattle.cq_model.proofs.building.make_nodes.Goals as goal

pub place_leaves-requires : goal.place_leaves-requires
place_leaves-requires c = (c.args.entries.now, c.requires.closed, c.requires.rows)

pub push_given-requires : goal.push_given-requires
push_given-requires c =
    let leaves : AreLeaves c.args.schema.now c.args.presentation.now c.args.tables.now c.args.entries.now c.args.numbered.now.names c.in_ok-list.places c.in_ok-list.list =
    c.in_ok-list.ensures c.args.entries.now c.requires.closed c.requires.rows in
    record { places = leaves.have; presented = leaves.presented; presentation = c.requires.presentation }

pub push_observations-requires : goal.push_observations-requires
push_observations-requires c =
    let S : Schema = c.args.schema.now in
    let P : Presentation = c.args.presentation.now in
    let m : Content = c.args.tables.now in
    let numbered : NumberedRows = c.args.numbered.now in
    let leaves : AreLeaves S P m c.args.entries.now numbered.names c.in_ok-list.places c.in_ok-list.list = c.in_ok-list.ensures c.args.entries.now c.requires.closed c.requires.rows in
    let numbers : AreNumbered S P m c.args.entries.now numbered.order numbered.names numbered.numbers = numbered_rows S P m c.args.entries.now c.requires.closed numbered c.requires.rows in
    record {
      places = HavePlaces-wider S m c.in_ok-list.places (length c.in_ok-list.list.nodes) (length c.push_given.new.list.nodes) c.in_ok-push_given.ensures.grows leaves.have;
      rows = subst (λ (l : List (List ℕ)). (e r i : ℕ) → slice_get (rows_at l e) i ≡ Some r → (live_of m r ≡ true) × (row_entity m r ≡ e)) (sym c.as_slice.ensures) (λ e r i h. numbers.live e i r h);
      few = omega (arith, ap length c.as_slice.ensures, numbers.entities, c.is_well_sorted.ensures.entity_numbers);
    }

pub returns : goal.returns
returns c =
    let S : Schema = c.args.schema.now in
    let P : Presentation = c.args.presentation.now in
    let m : Content = c.args.tables.now in
    let numbered : NumberedRows = c.args.numbered.now in
    let leaves : AreLeaves S P m c.args.entries.now numbered.names c.in_ok-list.places c.in_ok-list.list = c.in_ok-list.ensures c.args.entries.now c.requires.closed c.requires.rows in
    let numbers : AreNumbered S P m c.args.entries.now numbered.order numbered.names numbered.numbers = numbered_rows S P m c.args.entries.now c.requires.closed numbered c.requires.rows in
    let observed : AddsObservations S m c.in_ok-list.places numbered.order (length numbered.order) c.push_given.new.list c.push_observations.new.list =
    subst (λ (l : List (List ℕ)). AddsObservations S m c.in_ok-list.places l (length l) c.push_given.new.list c.push_observations.new.list) c.as_slice.ensures c.in_ok-push_observations.ensures.added in
    built_nodes S P m c.args.entries.now numbered.order numbered.names numbered.numbers c.in_ok-list.places c.in_ok-list.list c.push_given.new.list c.push_observations.new.list
    numbers leaves c.in_ok-push_given.ensures.added observed

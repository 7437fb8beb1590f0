use Rattle.std.proofs.Common.{ℕ, List, Some, ◌≡◌, ◌<◌, true, length, sym, ap, subst, ◌∙◌, arith}
use Rattle.std.specs.Prelude.{slice_get}
use Rattle.cq_tables.specs.Content.{live_of}
use Rattle.cq_tables.specs.Content.{entity_of as row_entity}
use Rattle.cq_theory.specs.declared.schema.Edge.{Edge}
use Rattle.cq_theory.specs.declared.value.Algebra.{Algebra}
use Rattle.cq_instance.specs.Given.{tables}
use Rattle.cq_names.specs.LeastNames.{rows_at}
use Rattle.cq_model.specs.NodeTerms.{cell_place}
use Rattle.cq_model.specs.Built.{sheet_of, assignment_of}
use Rattle.cq_model.proofs.BuiltReading as reading
use Rattle.cq_model.proofs.building.read_parts.Goals as goal

pub read_sheet-requires : goal.read_sheet-requires
read_sheet-requires c =
    let built = c.requires.built in
    let order : c.as_slice-order.result.now ≡ c.args.numbered.now.order = c.as_slice-order.ensures in
    record {
      entities = ap length order ∙ reading.entities_counted c.args.rows.now.schema.now c.args.rows.now.presentation.now c.args.rows.now.tables.now c.args.rows.now.entries.now c.requires.closed c.args.numbered.now.order c.args.numbered.now.names c.args.numbered.now.numbers c.args.closed.now.places.now built.0 built.1 c.args.types.now built.2 c.args.closed.now.flat.now built.3;
      few_values = omega (arith, c.requires.few_types, reading.types_counted c.args.rows.now.schema.now c.args.rows.now.presentation.now c.args.rows.now.tables.now c.args.rows.now.entries.now c.requires.closed c.args.numbered.now.order c.args.numbered.now.names c.args.numbered.now.numbers c.args.closed.now.places.now built.0 built.1 c.args.types.now built.2 c.args.closed.now.flat.now built.3);
      keys = c.requires.closed.keys;
      rows = subst (λ (l : List (List ℕ)). (e n r : ℕ) → slice_get (rows_at l e) n ≡ Some r → (live_of c.args.rows.now.tables.now r ≡ true) × (row_entity c.args.rows.now.tables.now r ≡ e)) (sym order)
          (reading.rows_are c.args.rows.now.schema.now c.args.rows.now.presentation.now c.args.rows.now.tables.now c.args.rows.now.entries.now c.requires.closed c.args.numbered.now.order c.args.numbered.now.names c.args.numbered.now.numbers c.args.closed.now.places.now built.0 built.1 c.args.types.now built.2 c.args.closed.now.flat.now built.3);
      places = subst (λ (l : List (List ℕ)). (a n r : ℕ) (edge : Edge) → slice_get c.args.rows.now.schema.now.attributes a ≡ Some edge → slice_get (rows_at l edge.from) n ≡ Some r → cell_place c.args.closed.now.places.now r a < length c.args.closed.now.flat.now.values) (sym order)
          (reading.places_within c.args.rows.now.schema.now c.args.rows.now.presentation.now c.args.rows.now.tables.now c.args.rows.now.entries.now c.requires.closed c.args.numbered.now.order c.args.numbered.now.names c.args.numbered.now.numbers c.args.closed.now.places.now built.0 built.1 c.args.types.now built.2 c.args.closed.now.flat.now built.3);
    }

pub read_algebra-requires : goal.read_algebra-requires
read_algebra-requires c =
    let built = c.requires.built in
    reading.nulls_within c.args.rows.now.schema.now c.args.rows.now.presentation.now c.args.rows.now.tables.now c.args.rows.now.entries.now c.requires.closed c.args.numbered.now.order c.args.numbered.now.names c.args.numbered.now.numbers c.args.closed.now.places.now built.0 built.1 c.args.types.now built.2 c.args.closed.now.flat.now built.3

pub read_standings-requires : goal.read_standings-requires
read_standings-requires c =
    let built = c.requires.built in
    reading.generators_within c.args.rows.now.schema.now c.args.rows.now.presentation.now c.args.rows.now.tables.now c.args.rows.now.entries.now c.requires.closed c.args.numbered.now.order c.args.numbered.now.names c.args.numbered.now.numbers c.args.closed.now.places.now built.0 built.1 c.args.types.now built.2 c.args.closed.now.flat.now built.3

pub returns-clause-tables : goal.returns-clause-tables
returns-clause-tables c =
    let built = c.requires.built in
    let sheet = c.in_ok-sheet.ensures c.args.rows.now.presentation.now c.args.rows.now.entries.now
    ∙ (λ i. sheet_of c.args.rows.now.schema.now c.args.rows.now.presentation.now c.args.rows.now.tables.now c.args.rows.now.entries.now (c.as_slice-order.ensures i) (c.as_slice-numbers.ensures i) c.args.closed.now.places.now c.args.closed.now.flat.now.values) in
    ap (λ (a : Algebra). tables c.in_ok-sheet.sheet a) c.in_ok-new.ensures
    ∙ reading.tables_read c.args.rows.now.schema.now c.args.rows.now.presentation.now c.args.rows.now.tables.now c.args.rows.now.entries.now c.requires.closed c.args.numbered.now.order c.args.numbered.now.names c.args.numbered.now.numbers c.args.closed.now.places.now built.0 built.1 c.args.types.now built.2 c.args.closed.now.flat.now built.3
    c.in_ok-sheet.sheet c.in_ok-algebra.algebra sheet c.in_ok-algebra.ensures.nulls c.in_ok-algebra.ensures.entries

pub returns-clause-assignment : goal.returns-clause-assignment
returns-clause-assignment c =
    c.in_ok-standings.ensures c.args.rows.now.schema.now c.args.rows.now.tables.now c.args.numbered.now.order
    ∙ (λ i. assignment_of c.args.rows.now.schema.now c.args.rows.now.presentation.now c.args.rows.now.tables.now c.args.rows.now.entries.now c.args.numbered.now.order (c.as_slice-numbers.ensures i) c.args.closed.now.places.now c.args.closed.now.flat.now.values)

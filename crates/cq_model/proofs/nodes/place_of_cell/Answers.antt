use Rattle.std.proofs.Common.{ℕ, List, Some, ◌≡◌, ◌<◌, ◌+◌, ◌^◌, ◌∙◌, subst, sym, ap, arith}
use Rattle.std.specs.Prelude.{IsSome, slice_index}
use Rattle.std.proofs.lemmas.Option.{none-some, same_Some}
use Rattle.cq_tables.specs.Content.{Content, trace_of, end_of, keys_of, entity_of}
use Rattle.cq_rows.specs.Rows.{row_of_term}
use Rattle.cq_theory.specs.declared.term.EntTerm.{EntTerm}
use Rattle.cq_model.specs.declared.places.Places.{Places}
use Rattle.cq_model.specs.NodeTerms.{cell_place}
use Rattle.cq_model.proofs.ReadableTerms.{HasCell, has_cell}
use Rattle.cq_model.proofs.nodes.place_of_cell.Goals as goal

pub bounds-rows-term : goal.bounds-rows-term
bounds-rows-term c = (has_cell c.requires.0 c.args.tables.now c.args.places.now c.requires.1 c.requires.3 c.args.rows.now c.args.attribute c.args.term.now c.requires.4).start

pub trace-requires-clause-live : goal.trace-requires-clause-live
trace-requires-clause-live c = (has_cell c.requires.0 c.args.tables.now c.args.places.now c.requires.1 c.requires.3 c.args.rows.now c.args.attribute c.args.term.now c.requires.4).live

pub trace-requires-clause-path : goal.trace-requires-clause-path
trace-requires-clause-path c =
    subst (λ p. IsSome (end_of (keys_of c.args.tables.now) (entity_of c.args.tables.now (slice_index c.args.rows.now c.args.term.now.generator)) p)) (sym c.as_slice.ensures)
    (has_cell c.requires.0 c.args.tables.now c.args.places.now c.requires.1 c.requires.3 c.args.rows.now c.args.attribute c.args.term.now c.requires.4).path

pub bounds-as_slice-attribute : goal.bounds-as_slice-attribute
bounds-as_slice-attribute c =
    let cell = has_cell c.requires.0 c.args.tables.now c.args.places.now c.requires.1 c.requires.3 c.args.rows.now c.args.attribute c.args.term.now c.requires.4 in
    rw c.as_slice-in-Some-2.ensures cell.attribute

-- the row that was traced is the term's
place_fits : (m : Content) (places : Places) (rows : List ℕ) (count a : ℕ) (t : EntTerm) (r first rank : ℕ) → HasCell m places rows count a t → row_of_term m rows t ≡ Some r
    → first ≡ slice_index places.firsts r → rank ≡ slice_index places.ranks a → count < 2 ^ 64 → first + rank < 2 ^ 64
place_fits m places rows count a t r first rank cell traced first_is rank_is less =
    let one : cell.row ≡ r = same_Some cell.row r (sym cell.traced ∙ traced) in
    let within : cell_place places r a < count = subst (λ q. cell_place places q a < count) one cell.within in
    omega (arith, within, first_is, rank_is, less)

pub overflow_add-result : goal.overflow_add-result
overflow_add-result c =
    let cell = has_cell c.requires.0 c.args.tables.now c.args.places.now c.requires.1 c.requires.3 c.args.rows.now c.args.attribute c.args.term.now c.requires.4 in
    let fits = place_fits c.args.tables.now c.args.places.now c.args.rows.now c.requires.1 c.args.attribute c.args.term.now c.in-Some.row _ _ cell
    (ap (trace_of c.args.tables.now (slice_index c.args.rows.now c.args.term.now.generator)) (sym c.as_slice.ensures) ∙ sym c.trace.ensures.value ∙ c.in-Some.is)
    (ap (λ l. slice_index l c.in-Some.row) c.as_slice-in-Some.ensures) (ap (λ l. slice_index l c.args.attribute) c.as_slice-in-Some-2.ensures) c.requires.2 in
    omega (arith, fits)

pub unreachable-requires : goal.unreachable-requires
unreachable-requires c =
    let cell = has_cell c.requires.0 c.args.tables.now c.args.places.now c.requires.1 c.requires.3 c.args.rows.now c.args.attribute c.args.term.now c.requires.4 in
    none-some cell.row (sym c.in-None.is ∙ c.trace.ensures.value ∙ ap (trace_of c.args.tables.now (slice_index c.args.rows.now c.args.term.now.generator)) c.as_slice.ensures ∙ cell.traced)

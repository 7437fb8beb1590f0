use Rattle.std.proofs.Common.{ℕ, List, [], ◌∷◌, ◌++◌, ◌≡◌, ◌<◌, map, length, sym, ap, ◌∙◌}
use Rattle.cq_flat.specs.Values.{value_at}
use Rattle.cq_theory.specs.declared.schema.Edge.{Edge}
use Rattle.cq_theory.specs.declared.value.Value.{Value}
use Rattle.cq_model.specs.declared.places.Places.{Places}
use Rattle.cq_names.specs.LeastNames.{rows_at}
use Rattle.cq_model.specs.NodeTerms.{cell_place}
use Rattle.cq_instance.proofs.Enumerated.{enumerated_more}
use Rattle.cq_model.proofs.Columned.{edge_found, rows_read, All_rows}
use Rattle.cq_model.proofs.reading.cell_columns.Goals as goal

pub cell_column-requires-clause-places : goal.cell_column-requires-clause-places
cell_column-requires-clause-places c =
    let order : List (List ℕ) = c.args.order.now in
    let places : Places = c.args.closed.now.places.now in
    let i : ℕ = c.loop-attribute.attribute in
    let edge : Edge = c.index-attributes-attribute.result in
    let rows : List ℕ = c.as_slice-rows.result.now in
    let rows_are : rows ≡ rows_at order edge.from = rows_read c.args.attributes.now order i edge c.loop-attribute-test.true c.index-attributes-attribute.is rows c.requires.within cc in
    let found = edge_found c.args.attributes.now order i edge c.loop-attribute-test.true c.index-attributes-attribute.is in
    All_rows (λ r. cell_place places r i < length c.args.closed.now.flat.now.values) order edge.from rows rows_are (λ n r at. c.requires.places i n r edge found at)

pub loop-attribute-preserved : goal.loop-attribute-preserved
loop-attribute-preserved c =
    let order : List (List ℕ) = c.args.order.now in
    let places : Places = c.args.closed.now.places.now in
    let values : List Value = c.args.closed.now.flat.now.values in
    let i : ℕ = c.loop-attribute.attribute in
    let edge : Edge = c.index-attributes-attribute.result in
    let rows : List ℕ = c.as_slice-rows.result.now in
    let rows_are : rows ≡ rows_at order edge.from = rows_read c.args.attributes.now order i edge c.loop-attribute-test.true c.index-attributes-attribute.is rows c.requires.within cc in
    let f : ℕ × Edge → List Value = λ a. map (λ (r : ℕ). value_at values (cell_place places r a.0)) (rows_at order a.1.from) in
    c.in_ok-push.ensures.items
    ∙ (λ j. c.loop-attribute.invariant j ++ (c.in_ok-cell_column.ensures ∙ ap (map (λ (r : ℕ). value_at values (cell_place places r i))) rows_are ∙ ap (λ (e : Edge). f (i, e)) c.index-attributes-attribute.is) j ∷ [])
    ∙ sym (enumerated_more f c.args.attributes.now i edge c.loop-attribute-test.true)

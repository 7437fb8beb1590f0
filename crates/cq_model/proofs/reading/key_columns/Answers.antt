use Rattle.std.proofs.Common.{ℕ, List, [], ◌∷◌, ◌++◌, ◌≡◌, map, true, sym, ap, ◌∙◌}
use Rattle.std.specs.Prelude.{IsSome}
use Rattle.cq_tables.specs.Content.{Content, live_of, entity_of, keys_of, cell_of, step_of}
use Rattle.cq_theory.specs.declared.schema.Edge.{Edge}
use Rattle.cq_names.specs.LeastNames.{rows_at}
use Rattle.cq_model.specs.Built.{number_in}
use Rattle.cq_instance.proofs.Enumerated.{enumerated_more}
use Rattle.cq_model.proofs.Columned.{rows_read, step_found, All_rows}
use Rattle.cq_model.proofs.reading.key_columns.Goals as goal

pub key_column-requires-clause-live : goal.key_column-requires-clause-live
key_column-requires-clause-live c =
    let m : Content = c.args.tables.now in
    let order : List (List ℕ) = c.args.order.now in
    let i : ℕ = c.loop-key.key in
    let edge : Edge = c.index-keys-key.result in
    let rows : List ℕ = c.as_slice-rows.result.now in
    let rows_are : rows ≡ rows_at order edge.from = rows_read c.args.keys.now order i edge c.loop-key-test.true c.index-keys-key.is rows c.requires.within cc in
    All_rows (λ r. live_of m r ≡ true) order edge.from rows rows_are (λ n r at. (c.requires.rows edge.from n r at).0)

pub key_column-requires-clause-key : goal.key_column-requires-clause-key
key_column-requires-clause-key c =
    let m : Content = c.args.tables.now in
    let order : List (List ℕ) = c.args.order.now in
    let i : ℕ = c.loop-key.key in
    let edge : Edge = c.index-keys-key.result in
    let rows : List ℕ = c.as_slice-rows.result.now in
    let rows_are : rows ≡ rows_at order edge.from = rows_read c.args.keys.now order i edge c.loop-key-test.true c.index-keys-key.is rows c.requires.within cc in
    All_rows (λ r. IsSome (step_of (keys_of m) (entity_of m r) i)) order edge.from rows rows_are
    (λ n r at. step_found c.args.keys.now order i edge c.loop-key-test.true c.index-keys-key.is (keys_of m) (entity_of m r) c.requires.keys (c.requires.rows edge.from n r at).1)

pub loop-key-preserved : goal.loop-key-preserved
loop-key-preserved c =
    let m : Content = c.args.tables.now in
    let order : List (List ℕ) = c.args.order.now in
    let numbers : List ℕ = c.args.numbers.now in
    let i : ℕ = c.loop-key.key in
    let edge : Edge = c.index-keys-key.result in
    let rows : List ℕ = c.as_slice-rows.result.now in
    let rows_are : rows ≡ rows_at order edge.from = rows_read c.args.keys.now order i edge c.loop-key-test.true c.index-keys-key.is rows c.requires.within cc in
    let f : ℕ × Edge → List ℕ = λ k. map (λ (r : ℕ). number_in numbers (cell_of m r k.0)) (rows_at order k.1.from) in
    c.in_ok-push.ensures.items
    ∙ (λ j. c.loop-key.invariant j ++ (c.in_ok-key_column.ensures ∙ ap (map (λ (r : ℕ). number_in numbers (cell_of m r i))) rows_are ∙ ap (λ (e : Edge). f (i, e)) c.index-keys-key.is) j ∷ [])
    ∙ sym (enumerated_more f c.args.keys.now i edge c.loop-key-test.true)

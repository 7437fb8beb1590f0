use Rattle.std.proofs.Common.{ℕ, List, [], ◌∷◌, ◌++◌, ◌≡◌, ◌≤◌, map, length, sym, ap, subst, ◌∙◌}
use Rattle.std.specs.Prelude.{slice_get}
use Rattle.cq_theory.specs.declared.schema.Edge.{Edge}
use Rattle.cq_theory.specs.declared.term.EntTerm.{EntTerm}
use Rattle.cq_theory.specs.SchemaData.{SchemaData as Schema}
use Rattle.cq_theory.specs.Tables.{Tables, AtRow, row_of}
use Rattle.cq_instance.proofs.Enumerated.{enumerated_more}
use Rattle.cq_query.specs.QueryData.{QueryData as Query}
use Rattle.cq_eval.specs.Made.{answers_of, made_keys, place_in}
use Rattle.cq_eval.proofs.Answered.{key_ends}
use Rattle.cq_eval.proofs.Filled.{read_at, entity_within, entity_reads}
use Rattle.cq_eval.proofs.Typed.{key_typed}
use Rattle.cq_eval.proofs.keys.key_columns.Goals as goal

pub bounds-answers-edge : goal.bounds-answers-edge
bounds-answers-edge c =
    let Q : Query = c.args.query.now in
    let M : Tables = c.args.instance.now.tables in
    let edge : Edge = c.index-keys-key.result in
    let behind = ap (λ (S : Schema). S.keys) c.behind-query.view_is in
    let held = ap (λ (q : Query). q.target.keys) c.query.view_is in
    let same : c.as_slice-keys.result.now ≡ Q.target.keys = cc in
    let at = read_at Q.target.keys c.as_slice-keys.result.now c.loop-key.key edge same c.loop-key-test.true c.index-keys-key.is in
    entity_within (answers_of Q M) (length Q.target.entities) edge.from c.args.answers.now c.requires.answers (key_ends Q M c.is_well_sorted.ensures c.loop-key.key edge at).0

pub bounds-answers-edge-in-loop-key : goal.bounds-answers-edge-in-loop-key
bounds-answers-edge-in-loop-key c =
    let Q : Query = c.args.query.now in
    let M : Tables = c.args.instance.now.tables in
    let edge : Edge = c.index-keys-key.result in
    let behind = ap (λ (S : Schema). S.keys) c.behind-query.view_is in
    let held = ap (λ (q : Query). q.target.keys) c.query.view_is in
    let same : c.as_slice-keys.result.now ≡ Q.target.keys = cc in
    let at = read_at Q.target.keys c.as_slice-keys.result.now c.loop-key.key edge same c.loop-key-test.true c.index-keys-key.is in
    entity_within (answers_of Q M) (length Q.target.entities) edge.to c.args.answers.now c.requires.answers (key_ends Q M c.is_well_sorted.ensures c.loop-key.key edge at).1

pub key_column-requires-clause-typed : goal.key_column-requires-clause-typed
key_column-requires-clause-typed c =
    let Q : Query = c.args.query.now in
    let M : Tables = c.args.instance.now.tables in
    let k : ℕ = c.loop-key.key in
    let edge : Edge = c.index-keys-key.result in
    let behind = ap (λ (S : Schema). S.keys) c.behind-query.view_is in
    let held = ap (λ (q : Query). q.target.keys) c.query.view_is in
    let same : c.as_slice-keys.result.now ≡ Q.target.keys = cc in
    let at = read_at Q.target.keys c.as_slice-keys.result.now k edge same c.loop-key-test.true c.index-keys-key.is in
    let source = entity_reads (answers_of Q M) (length Q.target.entities) edge.from c.args.answers.now c.index-answers-edge.result c.requires.answers (key_ends Q M c.is_well_sorted.ensures k edge at).0 c.index-answers-edge.is in
    λ place rows here n t there.
    key_typed Q M c.is_well_sorted.ensures c.args.instance.now.schema c.requires.over k edge at place rows (ap (λ (l : List (List ℕ)). slice_get l place) (sym source) ∙ here)
    n t (ap (λ (l : List EntTerm). slice_get l n) (sym c.assigned.ensures) ∙ there)

pub key_column-requires-clause-few : goal.key_column-requires-clause-few
key_column-requires-clause-few c =
    let Q : Query = c.args.query.now in
    let M : Tables = c.args.instance.now.tables in
    let edge : Edge = c.index-keys-key.result in
    let behind = ap (λ (S : Schema). S.keys) c.behind-query.view_is in
    let held = ap (λ (q : Query). q.target.keys) c.query.view_is in
    let same : c.as_slice-keys.result.now ≡ Q.target.keys = cc in
    let at = read_at Q.target.keys c.as_slice-keys.result.now c.loop-key.key edge same c.loop-key-test.true c.index-keys-key.is in
    let within = entity_within (answers_of Q M) (length Q.target.entities) edge.to c.args.answers.now c.requires.answers (key_ends Q M c.is_well_sorted.ensures c.loop-key.key edge at).1 in
    subst (λ (l : List (List ℕ)). length l ≤ 1000000) (sym c.index-answers-edge-in-loop-key.is) (c.requires.few edge.to c.index-answers-edge-in-loop-key.result within)

pub loop-key-preserved : goal.loop-key-preserved
loop-key-preserved c =
    let Q : Query = c.args.query.now in
    let M : Tables = c.args.instance.now.tables in
    let k : ℕ = c.loop-key.key in
    let edge : Edge = c.index-keys-key.result in
    let behind = ap (λ (S : Schema). S.keys) c.behind-query.view_is in
    let held = ap (λ (q : Query). q.target.keys) c.query.view_is in
    let same : c.as_slice-keys.result.now ≡ Q.target.keys = cc in
    let at = read_at Q.target.keys c.as_slice-keys.result.now k edge same c.loop-key-test.true c.index-keys-key.is in
    let ends = key_ends Q M c.is_well_sorted.ensures k edge at in
    let source = entity_reads (answers_of Q M) (length Q.target.entities) edge.from c.args.answers.now c.index-answers-edge.result c.requires.answers ends.0 c.index-answers-edge.is in
    let target = entity_reads (answers_of Q M) (length Q.target.entities) edge.to c.args.answers.now c.index-answers-edge-in-loop-key.result c.requires.answers ends.1 c.index-answers-edge-in-loop-key.is in
    let column : c.in_ok-key_column.field-0 ≡ made_keys Q M (k, edge) =
    c.in_ok-key_column.ensures ∙ (λ j. map (λ rows. place_in (target j) (map (row_of M (map AtRow rows)) (c.assigned.ensures j))) (source j)) in
    c.in_ok-push.ensures.items
    ∙ (λ j. c.loop-key.invariant j ++ (column ∙ ap (λ (e : Edge). made_keys Q M (k, e)) c.index-keys-key.is) j ∷ [])
    ∙ sym (enumerated_more (made_keys Q M) c.as_slice-keys.result.now k edge c.loop-key-test.true)

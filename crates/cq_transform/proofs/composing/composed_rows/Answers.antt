use Rattle.std.proofs.Common.{ℕ, List, [], ◌∷◌, ◌++◌, ◌≡◌, map, get_or, sym, ap, ◌∙◌}
use Rattle.std.specs.Prelude.{slice_index, slice_index_or}
use Rattle.cq_instance.proofs.Enumerated.{enumerated_more}
use Rattle.cq_transform.proofs.composing.composed_rows.Goals as goal

pub loop-entity-preserved : goal.loop-entity-preserved
loop-entity-preserved c =
    let f : ℕ × List ℕ → List ℕ = λ e. map (slice_index (slice_index_or c.args.second.now e.0 [])) e.1 in
    let made : c.in_ok-rows_then.field-0 ≡ f (c.loop-entity.entity, get_or c.args.first.now c.loop-entity.entity c.index-first-entity.result) =
    c.in_ok-rows_then.ensures ∙ (λ k. map (slice_index (c.rows_at.ensures k)) (c.as_slice.ensures k)) ∙ ap (λ (list : List ℕ). f (c.loop-entity.entity, list)) c.index-first-entity.is in
    c.in_ok-push.ensures.items ∙ (λ k. c.loop-entity.invariant k ++ made k ∷ [])
    ∙ sym (enumerated_more f c.args.first.now c.loop-entity.entity c.index-first-entity.result c.loop-entity-test.true)

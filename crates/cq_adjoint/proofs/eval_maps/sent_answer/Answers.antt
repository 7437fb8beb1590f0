use Rattle.std.proofs.Common.{ℕ, List, [], ◌∷◌, ◌++◌, ◌≡◌, get_or, sym, ap, ◌∙◌}
use Rattle.std.specs.Prelude.{slice_index, slice_index_or}
use Rattle.cq_base.specs.declared.name.Name.{Name}
use Rattle.cq_theory.specs.Homomorphism.{row_image}
use Rattle.cq_instance.proofs.Enumerated.{enumerated_more}
use Rattle.cq_adjoint.proofs.eval_maps.sent_answer.Goals as goal

pub loop-number-preserved : goal.loop-number-preserved
loop-number-preserved c =
    let rows : List (List ℕ) = c.args.evaluating.now.moved.now.rows in
    let f : ℕ × (Name × ℕ) → ℕ = λ v. slice_index (slice_index_or rows v.1.1 []) (slice_index c.args.rows.now v.0) in
    let vs : List (Name × ℕ) = c.variables-variables.result.now in
    let made : c.row_at.result ≡ f (c.loop-number.number, get_or vs c.loop-number.number c.index-variables-number.result) =
    c.row_at.ensures
    ∙ (λ j. slice_index (slice_index_or (c.as_slice.ensures j) c.index-variables-number.result.1 []) (c.number_at-row.ensures j))
    ∙ ap (λ (v : Name × ℕ). f (c.loop-number.number, v)) c.index-variables-number.is in
    c.in_ok-push.ensures.items ∙ (λ j. c.loop-number.invariant j ++ made j ∷ [])
    ∙ sym (enumerated_more f vs c.loop-number.number c.index-variables-number.result c.loop-number-test.true)

use Rattle.std.proofs.Common.{ℕ, List, [], ◌∷◌, ◌++◌, Some, ◌≡◌, ◌+◌, get_or, sym, ap, ◌∙◌}
use Rattle.std.specs.Prelude.{slice_get}
use Rattle.cq_base.specs.declared.name.Name.{Name}
use Rattle.cq_theory.specs.EntTerm.{alone}
use Rattle.cq_instance.proofs.Enumerated.{enumerated_more}
use Rattle.cq_transform.proofs.Loops.{read_at}
use Rattle.cq_query.specs.Translation.{variables_at}
use Rattle.cq_adjoint.specs.QueryMoves.{row_sent}
use Rattle.cq_adjoint.proofs.crossing.sent_rows.Goals as goal

pub loop-number-preserved : goal.loop-number-preserved
loop-number-preserved c =
    let f : ℕ × (Name × ℕ) → ℕ = λ v. row_sent c.args.crossing.now.moved.now c.args.crossing.now.copies.now c.args.crossing.now.target.now v.1.1 (alone (c.args.first + v.0)) in
    let vs : List (Name × ℕ) = c.variables-variables.result.now in
    let made : c.sent_row.result ≡ f (c.loop-number.number, get_or vs c.loop-number.number c.index-variables-number.result) =
    c.sent_row.ensures ∙ ap (λ (v : Name × ℕ). f (c.loop-number.number, v)) c.index-variables-number.is in
    c.in_ok-push.ensures.items ∙ (λ j. c.loop-number.invariant j ++ made j ∷ [])
    ∙ sym (enumerated_more f vs c.loop-number.number c.index-variables-number.result c.loop-number-test.true)

pub sent_row-requires : goal.sent_row-requires
sent_row-requires c =
    let at : slice_get (variables_at c.args.crossing.now.query.now c.args.entity) c.loop-number.number ≡ Some c.index-variables-number.result =
    ap (λ (l : List (Name × ℕ)). slice_get l c.loop-number.number) (sym c.variables-variables.ensures)
    ∙ read_at c.variables-variables.result.now c.loop-number.number c.index-variables-number.result c.loop-number-test.true c.index-variables-number.is in
    c.requires.ground c.loop-number.number c.index-variables-number.result at

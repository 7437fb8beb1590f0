use Rattle.std.proofs.Common.{ℕ, List, [], ◌∷◌, ◌++◌, map, sym, ◌∙◌}
use Rattle.cq_theory.specs.Tables.{AtRow, row_of}
use Rattle.cq_eval.specs.Made.{place_in}
use Rattle.cq_eval.proofs.Filled.{column_more}
use Rattle.cq_eval.proofs.keys.key_column.Goals as goal

pub loop-place-preserved : goal.loop-place-preserved
loop-place-preserved c =
    let f : List ℕ → ℕ = λ rows. place_in c.args.target.now (map (row_of c.args.instance.now.tables (map AtRow rows)) c.args.terms.now) in
    c.in_ok-push.ensures.items ∙ (λ j. c.loop-place.invariant j ++ c.in_ok-place_at.ensures j ∷ []) ∙ sym (column_more f c.args.source.now c.loop-place.place c.at.result.now c.at.ensures)

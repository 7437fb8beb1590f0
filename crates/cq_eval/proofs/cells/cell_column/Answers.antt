use Rattle.std.proofs.Common.{ℕ, List, [], ◌∷◌, ◌++◌, map, sym, ap, ◌∙◌}
use Rattle.std.specs.List.{list_any}
use Rattle.cq_theory.specs.declared.value.Value.{Value}
use Rattle.cq_theory.specs.Tables.{AtRow, value_of}
use Rattle.cq_eval.proofs.Filled.{is_long, tells_too, column_more, none_more, passes_at_member}
use Rattle.cq_eval.proofs.cells.cell_column.Goals as goal

pub returns-in-Err-clause-refused : goal.returns-in-Err-clause-refused
returns-in-Err-clause-refused c =
    let f : List ℕ → Value = λ rows. value_of c.args.instance.now.tables (map AtRow rows) c.args.term.now in
    tells_too (is_long (f c.at.result.now)) (list_any is_long (map f c.args.source.now)) c.in-Err.refusal
    (passes_at_member is_long f c.args.source.now c.loop-place.place c.at.result.now c.at.ensures) c.in-Err.ensures.refused

pub loop-place-preserved : goal.loop-place-preserved
loop-place-preserved c =
    let f : List ℕ → Value = λ rows. value_of c.args.instance.now.tables (map AtRow rows) c.args.term.now in
    let rows : List ℕ = c.at.result.now in
    record {
      values = c.in_default-push_value.ensures.value ∙ (λ j. c.loop-place.invariant.values j ++ f rows ∷ []) ∙ sym (column_more f c.args.source.now c.loop-place.place rows c.at.ensures);
      fit = ap (list_any is_long) c.in_default-push_value.ensures.value ∙ none_more is_long c.loop-place.column.items (f rows) c.loop-place.invariant.fit c.in_default-push_value.ensures.fits;
    }

use Rattle.std.proofs.Common.{ℕ, [], ◌∷◌, ◌++◌, map, sym, ap, ◌∙◌}
use Rattle.std.specs.List.{list_any}
use Rattle.cq_theory.specs.declared.value.Value.{Value}
use Rattle.cq_theory.specs.Canonical.{below}
use Rattle.cq_theory.specs.Tables.{AtRow, value_of}
use Rattle.cq_move.proofs.Tests.{map_below_more, none_more}
use Rattle.cq_move.proofs.MadeColumns.{is_long, long_value, tells_too}
use Rattle.cq_move.proofs.columns.value_column.Goals as goal

pub push_value-requires : goal.push_value-requires
push_value-requires c = (c.requires.0, c.requires.1 c.loop-row.row c.loop-row-test.true)

pub returns-in-Err-clause-refused : goal.returns-in-Err-clause-refused
returns-in-Err-clause-refused c =
    let f : ℕ → Value = λ r. value_of c.args.instance.now.tables (AtRow r ∷ []) c.args.term.now in
    tells_too (is_long (f c.loop-row.row)) (list_any is_long (map f (below c.args.count))) c.in-Err.refusal (long_value f c.args.count c.loop-row.row c.loop-row-test.true) c.in-Err.ensures.refused

pub loop-row-preserved : goal.loop-row-preserved
loop-row-preserved c =
    let f : ℕ → Value = λ r. value_of c.args.instance.now.tables (AtRow r ∷ []) c.args.term.now in
    let row : ℕ = c.loop-row.row in
    record {
      values = c.in_default-push_value.ensures.value ∙ (λ j. c.loop-row.invariant.values j ++ f row ∷ []) ∙ sym (map_below_more f row);
      fit = ap (list_any is_long) c.in_default-push_value.ensures.value ∙ none_more is_long c.loop-row.column.items (f row) c.loop-row.invariant.fit c.in_default-push_value.ensures.fits;
    }

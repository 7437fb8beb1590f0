use Rattle.std.proofs.Common.{ℕ, List, Vec, Global, [], ◌∷◌, ◌++◌, if◌then◌else◌, map, length, sym, ap, ◌∙◌}
use Rattle.std.proofs.lemmas.List.{length-map, take_all}
use Rattle.std.proofs.lemmas.List.FromFn.{length-map-range_with_len}
use Rattle.cq_theory.specs.declared.value.Value.{Value}
use Rattle.cq_instance.specs.CellRows.{rows_with}
use Rattle.cq_instance.specs.SameValue.{same_value}
use Rattle.cq_instance.specs.declared.cell_index.ValueRows.{ValueRows}
use Rattle.cq_instance.proofs.IndexedRows.{no_rows, rows_with_more}
use Rattle.cq_instance.proofs.cell_index.lists_of.Goals as goal

pub loop-row-init : goal.loop-row-init
loop-row-init c =
    let items : Vec ValueRows Global → List ValueRows = λ list. list.items in
    record {
      length = sym (length-map c.in_ok-lists.lists.items items) ∙ ap length c.in_ok-lists.ensures ∙ length-map-range_with_len (λ (_ : ℕ). let none : List ValueRows = [] in none) 0 c.args.count ∙ sym c.requires;
      rows = no_rows c.args.hashing (map items c.in_ok-lists.lists.items) c.args.count c.in_ok-lists.ensures;
    }

pub loop-row-preserved : goal.loop-row-preserved
loop-row-preserved c =
    let column : List Value = c.args.column.now in
    let row : ℕ = c.loop-row.row in
    let cell : Value = c.index-column-row.result in
    record {
      length = c.in_ok-add_row.ensures.length ∙ c.loop-row.invariant.length;
      rows = λ v. c.in_ok-add_row.ensures.rows v
          ∙ ap (λ (l : List ℕ). l ++ (if same_value cell v then row ∷ [] else [])) (c.loop-row.invariant.rows v)
          ∙ sym (rows_with_more column row cell cell c.loop-row-test.true c.index-column-row.is v);
    }

pub returns : goal.returns
returns c = λ v. c.loop-row.invariant.rows v ∙ ap (λ (l : List Value). rows_with l v) (take_all c.loop-row.row c.args.column.now c.loop-row-test.false)

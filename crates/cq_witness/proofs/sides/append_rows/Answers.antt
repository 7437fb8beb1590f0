use Rattle.std.proofs.Common.{◌++◌, refl, sym, ◌∙◌}
use Rattle.cq_witness.specs.Sides.{rows, names_text}
use Rattle.cq_witness.proofs.Meant.{same_row}
use Rattle.cq_witness.proofs.sides.append_rows.Goals as goal

pub returns : goal.returns
returns c =
    let i = c.args.instance.now in
    let first = c.in-Some.ensures in
    let second = c.in-Some-row_name.ensures in
    rows c.args.left.now c.args.right.now refl refl
    (record {
      left = first.0;
      right = second.0;
      apart = λ same. c.if-row_of.false (c.row_of.ensures.row ∙ same_row _ _ same ∙ sym c.row_of-2.ensures.row);
    })
    (c.in_ok-append_names.ensures ∙ (λ k. c.args.out.now.items ++ names_text i (first.1 k) (second.1 k)))

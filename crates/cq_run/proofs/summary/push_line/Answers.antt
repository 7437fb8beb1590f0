use Rattle.std.proofs.Common.{◌∙◌, ap, length}
use Rattle.cq_theory.specs.declared.value.Algebra.{Algebra}
use Rattle.cq_run.proofs.Pushed.{line_pushed}
use Rattle.cq_run.proofs.summary.push_line.Goals as goal

pub returns : goal.returns
returns c =
    line_pushed _ _ _ _ _ _ _ _ _ _ _ _ _ _ _ c.in_ok-extend_from_slice.ensures.items c.in_ok-extend_from_slice-2.ensures.items
    c.in_ok-push_count.ensures c.in_ok-push_count-2.ensures c.in_ok-push_count-3.ensures c.in_ok-extend_from_slice-3.ensures.items
    (c.as_bytes.ensures.value ∙ c.as_str.ensures.text) c.row_count.ensures
    (c.len.ensures ∙ ap (λ (a : Algebra). length a.nulls) c.algebra-algebra.ensures.algebra)
    (c.len-2.ensures ∙ ap (λ (a : Algebra). length a.entries) c.algebra-algebra.ensures.algebra)

use Rattle.std.proofs.Common.{◌∙◌, ap, sum}
use Rattle.cq_theory.specs.declared.value.Sheet.{Sheet}
use Rattle.cq_run.proofs.Counting.{few_counts}
use Rattle.cq_run.proofs.summary.row_count.Goals as goal

pub sum_of-requires : goal.sum_of-requires
sum_of-requires c =
    few_counts c.args.instance.now c.deref.result.now c.sheet.result.now c.as_slice.result.now c.sheet.ensures.instance c.is_well_sorted.ensures
    (c.deref.ensures ∙ c.schema.ensures.schema) c.as_slice.ensures c.sheet.ensures.sheet

pub returns : goal.returns
returns c = c.sum_of.ensures ∙ ap sum (c.as_slice.ensures ∙ ap (λ (s : Sheet). s.counts) c.sheet.ensures.sheet)

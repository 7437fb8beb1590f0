use Rattle.std.proofs.Common.{◌≡◌, length, sym, ap, ◌∙◌}
use Rattle.std.specs.Prelude.{sum}
use Rattle.cq_theory.specs.declared.value.Sheet.{Sheet}
use Rattle.cq_text.specs.Spelling.{starts_of}
use Rattle.cq_text.proofs.Plans.{length-starts_of}
use Rattle.cq_text.proofs.plan.plan_of.Goals as goal

pub returns : goal.returns
returns c =
    let i = c.args.instance.now in
    let counts : c.as_slice-counts.result.now ≡ i.tables.sheet.counts = c.as_slice-counts.ensures ∙ ap (λ (s : Sheet). s.counts) c.sheet.ensures.sheet in
    let starts : c.in_ok-starts.starts.items ≡ starts_of i.tables.sheet.counts = c.in_ok-starts.ensures.starts ∙ ap starts_of counts in
    record {
      starts = starts;
      entities = ap length starts ∙ length-starts_of i.tables.sheet.counts ∙ c.sheet.ensures.instance.well_formed.entities;
      null = c.in_ok-starts.ensures.null ∙ ap sum counts;
      attributes = c.in_ok-attributes.ensures;
      keys = c.in_ok-keys.ensures;
    }

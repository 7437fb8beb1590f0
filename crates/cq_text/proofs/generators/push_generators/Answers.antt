use Rattle.std.proofs.Common.{◌++◌, ap, sym, ◌∙◌}
use Rattle.cq_text.proofs.GeneratorLines.{generators_lines}
use Rattle.cq_text.proofs.Plans.{plan_counts, two_parts}
use Rattle.cq_text.proofs.generators.push_generators.Goals as goal

pub returns : goal.returns
returns c =
    let i = c.args.instance.now in
    two_parts c.args.text.now.items c.push_row_generators.new.text.items c.push_null_generators.new.text.items _ _ c.in_ok-push_row_generators.ensures c.in_ok-push_null_generators.ensures
    ∙ ap (λ l. c.args.text.now.items ++ l) (sym (generators_lines i.schema i.tables (plan_counts i c.args.plan.now c.requires)))

use Rattle.std.proofs.Common.{length, sym, ap, ◌∙◌}
use Rattle.cq_query.specs.Translation.{along}
use Rattle.cq_compose.specs.Composite.{components}
use Rattle.cq_compose.proofs.Following.{length-along}
use Rattle.cq_compose.proofs.frame.component_count.Goals as goal

pub returns-in-Some : goal.returns-in-Some
returns-in-Some c =
    let frame = c.args.frame.now in
    let terms = components frame.first.now frame.second.now frame.entity c.args.term.now.generator in
    c.assigned_count.ensures
    ∙ sym (ap (λ p. length (along frame.first.now terms p)) (sym c.as_slice.ensures ∙ c.in-Some.ensures.cases.0) ∙ length-along frame.first.now terms c.in-Some.field-0-1.now c.in-Some.key.now)

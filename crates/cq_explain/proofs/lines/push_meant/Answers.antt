use Rattle.std.proofs.Common.{◌≡◌, ap, ◌∙◌}
use Rattle.cq_theory.specs.SchemaData.{SchemaData}
use Rattle.cq_explain.proofs.Meant.{meant_is_named}
use Rattle.cq_explain.proofs.lines.push_meant.Goals as goal

pub push_value-requires : goal.push_value-requires
push_value-requires c =
    let i = c.args.instance.now in
    let typeside : c.deref-2.result.now ≡ i.schema.typeside =
    c.deref-2.ensures ∙ ap (λ (s : SchemaData). s.typeside) (c.behind-schema.view_is ∙ c.deref.ensures ∙ c.schema.ensures.schema) in
    rw (typeside, c.in_ok-value.ensures) (meant_is_named i c.args.term.now c.requires.initial c.requires.ground)

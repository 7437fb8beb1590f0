use Rattle.std.proofs.Common.{◌≡◌, ◌∙◌, sym, ap, subst, length, ◌≤◌}
use Rattle.cq_import.specs.Cells.{constant_content, constant_of_name}
use Rattle.cq_import.proofs.Constants.{no_text, not_longer, of_name}
use Rattle.cq_import.proofs.content.constant_content.Goals as goal

pub returns-in_default : goal.returns-in_default
returns-in_default c = no_text c.args.typeside.now c.args.sort c.args.field.now c.in_default.ensures.cases.0

pub returns-in-Ok-name : goal.returns-in-Ok-name
returns-in-Ok-name c =
    let text = c.in-Ok.text.now in
    let short = not_longer (length text) (λ long. let never : _ ≡ _ = c.in-Ok-name.ensures.long.1 long in cc never) in
    let name = c.in-Ok-name.ensures.ok ∙ c.in-Ok.ensures.cases.0 in
    of_name c.args.typeside.now c.args.sort c.args.field.now _ (subst (λ t. length t ≤ 255) c.in-Ok.ensures.cases.0 short) c.in-Ok.ensures.cases.1
    (c.named_content.ensures ∙ ap (constant_of_name c.args.typeside.now c.args.sort) name)

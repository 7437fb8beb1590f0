use Rattle.std.proofs.Common.{◌≡◌, ◌∙◌, sym, ap, true}
use Rattle.cq_values.specs.Reading.{is_label}
use Rattle.cq_values.proofs.Numbers.{digits_text, is_one, parsed}
use Rattle.cq_values.proofs.labels.label_of.Goals as goal

pub returns-in_default : goal.returns-in_default
returns-in_default c = absurd (c.in_default.ensures.cases.0 (digits_text c.args.digits.now (sym c.are_digits.ensures ∙ c.if-not-are_digits.false)))

pub returns-in-Err : goal.returns-in-Err
returns-in-Err c =
    let label : is_label c.args.digits.now ≡ true = is_one c.args.digits.now _ _ c.are_digits.ensures c.has_label_form.ensures c.if-not-are_digits.false c.if-not-has_label_form.false in
    let at_text : is_label c.in-Ok.text.now ≡ true = ap is_label c.in-Ok.ensures.cases.0 ∙ label in
    cc (parsed c.in-Ok.text.now c.parse.result at_text c.parse.ensures.value.0, c.in-Err.is)

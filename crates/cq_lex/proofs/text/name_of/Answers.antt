use Rattle.std.proofs.Common.{refl, ap, ◌∙◌, length}
use Rattle.std.specs.Prelude.{Err}
use Rattle.std.proofs.lemmas.Str.{is_utf8-from_IsUtf8}
use Rattle.cq_lex.proofs.Runs.{utf8_false, fits, too_long}
use Rattle.cq_lex.proofs.text.name_of.Goals as goal

pub returns-in_default : goal.returns-in_default
returns-in_default c = (refl, utf8_false c.args.content.now c.in_default.ensures.cases.0)

pub returns-in-Ok-name : goal.returns-in-Ok-name
returns-in-Ok-name c =
    (c.in-Ok-name.ensures.ok ∙ c.in-Ok.ensures.cases.0, is_utf8-from_IsUtf8 c.args.content.now c.in-Ok.ensures.cases.1, rw (← c.in-Ok.ensures.cases.0) (fits (length c.in-Ok.text.now) (λ lt. cc (c.in-Ok-name.ensures.long.1 lt))))

pub returns-in-Err-Long : goal.returns-in-Err-Long
returns-in-Err-Long c =
    (refl, is_utf8-from_IsUtf8 c.args.content.now c.in-Ok.ensures.cases.1, rw (← c.in-Ok.ensures.cases.0) (too_long (length c.in-Ok.text.now) (c.in-Err-Long.ensures.long.0 (ap Err c.in-Err-Long.field-0-is))))

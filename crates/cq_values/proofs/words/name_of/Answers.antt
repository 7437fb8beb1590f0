use Rattle.cq_values.proofs.Naming.{no_text, made}
use Rattle.cq_values.proofs.words.name_of.Goals as goal

pub returns-in_default : goal.returns-in_default
returns-in_default c = no_text c.args.bytes.now c.in_default.ensures.cases.0

pub returns-in-Ok-name : goal.returns-in-Ok-name
returns-in-Ok-name c =
    made c.args.bytes.now c.in-Ok.text.now c.in-Ok-name.name c.in-Ok-name.ensures.ok c.in-Ok.ensures.cases.0 c.in-Ok.ensures.cases.1 (λ lt. cc (c.in-Ok-name.ensures.long.1 lt))

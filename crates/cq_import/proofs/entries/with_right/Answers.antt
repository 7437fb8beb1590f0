use Rattle.std.proofs.Common.{refl, ap, ◌∙◌}
use Rattle.csv.specs.Records.{fields_of}
use Rattle.cq_import.specs.Records.{field_in}
use Rattle.cq_import.proofs.Sides.{both_equation, left_passes, right_refused}
use Rattle.cq_import.proofs.entries.with_right.Goals as goal

pub returns-in-Ok-clause-passed : goal.returns-in-Ok-clause-passed
returns-in-Ok-clause-passed c =
    let over = c.args.over.now in
    left_passes over.typeside.now over.file.now c.args.labels.now c.args.number _ c.args.sort c.args.left c.requires.left c.requires.given (field_in (fields_of c.args.fields.now) 2) ∙ c.in-Ok.ensures.passed

pub returns-in-Ok-clause-equations : goal.returns-in-Ok-clause-equations
returns-in-Ok-clause-equations c =
    let over = c.args.over.now in
    both_equation over.typeside.now over.file.now c.args.labels.now c.args.number _ c.args.sort c.args.left c.requires.left (field_in (fields_of c.args.fields.now) 2) c.in-Ok.right c.in-Ok.ensures.read

pub returns-in-Err-clause-refused : goal.returns-in-Err-clause-refused
returns-in-Err-clause-refused c =
    let over = c.args.over.now in
    right_refused over.typeside.now over.file.now c.args.labels.now c.args.number _ c.args.sort c.args.left c.requires.left c.requires.given (field_in (fields_of c.args.fields.now) 2) c.args.labels.now
    c.in-Err.refusal refl c.in-Err.ensures.refused

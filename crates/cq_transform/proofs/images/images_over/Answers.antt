use Rattle.std.proofs.lemmas.Result.{err_from_is_err_and}
use Rattle.cq_transform.proofs.Checked.{made_over_all, missing_refused, no_fault, part_refused}
use Rattle.cq_transform.proofs.images.images_over.Goals as goal

pub returns-in-Err-clause-refused : goal.returns-in-Err-clause-refused
returns-in-Err-clause-refused c = λ H ends.
    part_refused c.args.schema.now c.args.generators.now H c.args.from.now c.args.to.now c.requires.from ends c.args.parts.now
    c.in-Err.refusal c.of_transform.result c.of_transform.ensures c.in-Err.ensures.refused

pub returns-in_err-check_given-clause-refused : goal.returns-in_err-check_given-clause-refused
returns-in_err-check_given-clause-refused c = λ H ends.
    let p = err_from_is_err_and c.from_residual.result c.from_residual.ensures.1 in
    rw (p.1, p.2)
    (missing_refused c.args.schema.now c.args.generators.now H c.args.from.now c.args.to.now c.requires.from ends c.args.parts.now
    c.in-Ok.given c.in-Ok.ensures.made c.in-Ok.ensures.accepted c.in_err-check_given.field-0.0 c.in_err-check_given.ensures.refused)

pub returns-clause-accepted : goal.returns-clause-accepted
returns-clause-accepted c = λ H ends.
    no_fault c.args.schema.now c.args.generators.now H c.args.from.now c.args.to.now c.requires.from ends c.args.parts.now
    c.in-Ok.given c.in-Ok.ensures.made c.in-Ok.ensures.accepted c.in_ok-check_given.ensures.accepted

pub returns-clause-made : goal.returns-clause-made
returns-clause-made c = λ H ends.
    made_over_all c.args.schema.now c.args.generators.now H c.args.from.now c.args.to.now c.requires.from ends c.args.parts.now
    c.in-Ok.given c.in_ok-images.images.items c.in-Ok.ensures.made (c.in_ok-images.ensures H ends)

use Rattle.cq_transform.proofs.Steps.{standing_of}
use Rattle.cq_transform.proofs.nulls.find_plain.Goals as goal

pub returns-clause-spelled : goal.returns-clause-spelled
returns-clause-spelled c = λ j all.
    c.find_standing.ensures.spelled c.args.source.now j (standing_of c.args.source.now c.args.generator c.in_ok-value.value c.requires c.in_ok-value.ensures) all

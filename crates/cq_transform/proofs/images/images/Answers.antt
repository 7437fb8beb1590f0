use Rattle.cq_transform.proofs.images.images.Goals as goal

pub returns-clause-accepted : goal.returns-clause-accepted
returns-clause-accepted c = c.images_over.ensures.accepted c.args.others.now c.in_ok-to.ensures

pub returns-clause-made : goal.returns-clause-made
returns-clause-made c = c.images_over.ensures.made c.args.others.now c.in_ok-to.ensures

pub returns-clause-refused : goal.returns-clause-refused
returns-clause-refused c = c.images_over.ensures.refused c.args.others.now c.in_ok-to.ensures

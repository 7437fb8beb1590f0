use Rattle.cq_transform.proofs.Composites.{composite_goes}
use Rattle.cq_transform.proofs.composing.compose.Goals as goal

pub returns-clause-made : goal.returns-clause-made
returns-clause-made c = c.in_ok-made.ensures c.args.middle.now c.in_ok-images.ensures.made

pub returns-clause-goes : goal.returns-clause-goes
returns-clause-goes c = λ start instance from to.
    composite_goes start c.args.middle.now c.args.last.now c.args.first.now c.args.second.now instance c.is_instance.ensures c.is_instance-2.ensures from to
    c.in_ok-made.made (c.in_ok-made.ensures c.args.middle.now c.in_ok-images.ensures.made)

use Rattle.cq_transform.proofs.Steps.{plain_ground, entity_closed}
use Rattle.cq_transform.proofs.nulls.find_generator.Goals as goal

pub find_plain-requires : goal.find_plain-requires
find_plain-requires c = plain_ground c.args.source.now c.args.generator c.in-Plain.field-0 c.args.sort c.requires c.in-Plain.is

pub returns-in-Entity-clause-closed : goal.returns-in-Entity-clause-closed
returns-in-Entity-clause-closed c = entity_closed c.args.source.now c.args.found.now.items c.args.generator c.in-Entity.field-0 c.args.sort c.requires c.in-Entity.is

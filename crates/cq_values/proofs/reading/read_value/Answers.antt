use Rattle.cq_values.proofs.Exactness.{if_read}
use Rattle.cq_values.proofs.reading.read_value.Goals as goal

pub returns-clause-exact : goal.returns-clause-exact
returns-clause-exact c = if_read c.args.typeside.now c.args.sort c.args.text.now c.is_well_sorted.ensures c.whole_value.result c.whole_value.ensures

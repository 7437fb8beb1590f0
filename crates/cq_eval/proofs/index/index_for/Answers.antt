use Rattle.cq_eval.proofs.Indexed.{left_way, right_way}
use Rattle.cq_eval.proofs.index.index_for.Goals as goal

pub path_index_of-requires-clause-way : goal.path_index_of-requires-clause-way
path_index_of-requires-clause-way c = left_way c.args.instance.now.schema c.args.instance.now.tables c.args.counts.now c.requires.some c.args.test.now c.requires.typed c.in-Ent.left c.in-Ent.right c.in-Ent.is

pub path_index_of-requires-in-None-clause-way : goal.path_index_of-requires-in-None-clause-way
path_index_of-requires-in-None-clause-way c = right_way c.args.instance.now.schema c.args.instance.now.tables c.args.counts.now c.requires.some c.args.test.now c.requires.typed c.in-Ent.left c.in-Ent.right c.in-Ent.is

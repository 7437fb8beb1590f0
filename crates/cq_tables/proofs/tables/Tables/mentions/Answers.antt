use Rattle.std.proofs.Common.{arith}
use Rattle.cq_tables.specs.Content.{made_of}
use Rattle.cq_tables.proofs.Mentioned.{counted_as}
use Rattle.cq_tables.proofs.tables.Tables.mentions.Goals as goal

pub count-requires : goal.count-requires
unfolding made_of
count-requires c = let h = rw (← c.self.view_is) at c.requires in omega (arith, h, c.self.invariant.laid.one_count)

pub returns : goal.returns
returns c = rw (← c.self.view_is) (counted_as _ _ _ _ _ _ _ c.args.row c.count.result c.self.invariant.laid c.count.ensures.places)

use Rattle.std.proofs.Common.{arith}
use Rattle.std.proofs.lemmas.List.{get_or_read}
use Rattle.cq_tables.specs.Content.{made_of, live_of}
use Rattle.cq_tables.proofs.tables.Tables.live.Goals as goal

pub index-requires : goal.index-requires
unfolding made_of
index-requires c = let h = rw (← c.self.view_is) at c.requires in omega (arith, h, c.self.invariant.laid.one_flag, c.self.inside.alive.ok.0)

pub returns : goal.returns
unfolding live_of made_of
returns c = rw (← c.self.view_is) (get_or_read c.self.inside.alive.items c.args.row _ (omega (arith, rw (← c.self.view_is) at c.requires, c.self.invariant.laid.one_flag, c.self.inside.alive.ok.0)) c.index.ensures _)

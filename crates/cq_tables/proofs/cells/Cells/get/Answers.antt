use Rattle.std.proofs.Common.{None, sym}
use Rattle.std.proofs.lemmas.List.{get_or_read}
use Rattle.cq_tables.proofs.Lists.{made_if}
use Rattle.cq_tables.proofs.cells.Cells.get.Goals as goal

pub returns-clause-made : goal.returns-clause-made
returns-clause-made c =
    let place = rw (← c.self.view_is) at c.requires in
    let read = get_or_read c.self.inside.cells.items c.args.place c.index.result.now place c.index.ensures None in
    rw (← c.self.view_is) (made_if c.self.inside.cells.items c.self.inside.spots.items c.self.inside.mentions.items c.args.place c.index.result.now c.self.invariant (sym read))

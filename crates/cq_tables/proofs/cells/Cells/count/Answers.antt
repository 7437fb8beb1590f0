use Rattle.std.proofs.Common.{◌<◌, length, [], arith}
use Rattle.std.proofs.lemmas.Grind.{common_steps}
use Rattle.cq_tables.proofs.Lists.{Places, mapped_at}
use Rattle.cq_tables.proofs.Inverses.{CountsPlaces-list}
use Rattle.cq_tables.proofs.cells.Cells.count.Goals as goal

pub returns-clause-places : goal.returns-clause-places
returns-clause-places c =
    let ms = c.self.inside.mentions.items in
    let b : c.args.row < length ms = grind (arith, common_steps) in
    let at = mapped_at (λ (x : Places). x.items) ms c.args.row c.index-list.result.now [] b c.index-list.ensures in
    rw (← c.self.view_is) (CountsPlaces-list _ _ _ c.self.invariant c.args.row _ (rw at (omega (arith, c.len.ensures, c.index-list.result.now.ok.0))))

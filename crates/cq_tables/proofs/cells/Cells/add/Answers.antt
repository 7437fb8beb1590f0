use Rattle.std.proofs.Common.{◌≡◌, ◌++◌, ◌∷◌, [], replicate, None, arith}
use Rattle.std.proofs.lemmas.Grind.{common_steps}
use Rattle.cq_tables.proofs.Lists.{add_kept}
use Rattle.cq_tables.proofs.cells.Cells.add.Goals as goal

pub invariant_of-self-2 : goal.invariant_of-self-2
invariant_of-self-2 c =
    let ms : c.push.new.self.items ≡ c.self.inside.mentions.items ++ c.new.result ∷ [] = grind (arith, common_steps) in
    let cells : c.push_empty.new.cells.items ≡ c.self.inside.cells.items ++ replicate c.args.count None = grind (arith, common_steps) in
    let spots : c.push_zero.new.spots.items ≡ c.self.inside.spots.items ++ replicate c.args.count 0 = grind (arith, common_steps) in
    rw (cells, spots, ms) (add_kept c.self.inside.cells.items c.self.inside.spots.items c.self.inside.mentions.items c.new.result c.args.count c.self.invariant c.new.ensures.items)

use Rattle.cq_flat.proofs.Members.{has_distinct}
use Rattle.cq_flat.proofs.closing.distinct.Goals as goal

pub returns : goal.returns
returns c = has_distinct c.args.numbers.items c.sort_unstable.new.self.items c.dedup.new.self.items c.sort_unstable.ensures.permutation c.dedup.ensures.filtered

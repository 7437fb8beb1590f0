use Rattle.std.proofs.Common.{ℕ, ◌≡◌, ◌<◌, [], length, get_or}
use Rattle.cq_flat.proofs.Vectors.{lists, lists_pushed}
use Rattle.cq_flat.proofs.lists.Lists.push.Goals as goal

pub returns : goal.returns
returns c =
    let vs = c.self.inside.lists.items in
    let l : c.args.at < length (lists vs) = rw (← c.self.view_is) at c.in_ok-extend_to.ensures.reached in
    let same : (k : ℕ) → get_or (lists vs) k [] ≡ get_or c.args.self.now k [] = rw (← c.self.view_is) at c.in_ok-extend_to.ensures.same in
    lists_pushed vs c.args.self.now c.args.at c.args.number c.index_mut-list.result.now c.push.new.self l c.index_mut-list.ensures.value c.in_ok-push.ensures.ok same

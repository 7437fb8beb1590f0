use Rattle.std.proofs.Common.{arith}
use Rattle.cq_colimit.proofs.Forests.{linked}
use Rattle.cq_colimit.proofs.classes.join.Goals as goal

pub returns-clause-joined : goal.returns-clause-joined
returns-clause-joined c = λ first forest.
    let l = c.find_first-left.ensures.found first forest in
    let r = c.find_first-right.ensures.found first l.0 in
    linked first c.find_first-right.new.parents c.args.left c.args.right c.find_first-left.result c.find_first-right.result c.min.result c.max.result
    r.0 l.1 l.2 r.1 r.2 c.min.ensures c.max.ensures
    (omega (arith, c.find_first-left.ensures.within, c.find_first-left.ensures.length, c.find_first-right.ensures.length))
    (omega (arith, c.find_first-right.ensures.within, c.find_first-right.ensures.length))

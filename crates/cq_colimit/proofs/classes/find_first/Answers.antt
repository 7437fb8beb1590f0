use Rattle.cq_colimit.proofs.Forests.{find_step}
use Rattle.cq_colimit.proofs.classes.find_first.Goals as goal

pub loop-parents-preserved : goal.loop-parents-preserved
loop-parents-preserved c =
    let s = c.loop-parents.invariant in
    find_step c.args.parents.now c.loop-parents.parents c.args.entity c.loop-parents.here s.0 s.1 s.2 s.3 c.loop-parents-test.true

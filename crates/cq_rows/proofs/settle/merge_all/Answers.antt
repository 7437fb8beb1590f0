use Rattle.cq_rows.specs.Origin.{theory_at}
use Rattle.cq_rows.proofs.Ready.{ready_after}
use Rattle.cq_rows.proofs.Settling.{IsSettling-start, settling_then}
use Rattle.cq_rows.proofs.settle.merge_all.Goals as goal

pub loop-merged-init : goal.loop-merged-init
loop-merged-init c = IsSettling-start _ _ _ c.requires.ready.whole c.requires.ready.current

pub loop-merged-preserved : goal.loop-merged-preserved
loop-merged-preserved c = settling_then (theory_at c.args.origin.now) c.args.tables.now c.loop-merged.tables c.pass.new.tables c.args.rows.now c.loop-merged.rows c.pass.new.rows c.loop-merged.invariant c.in_ok-merged.ensures.settling

pub pass-requires : goal.pass-requires
pass-requires c = record { ready = ready_after _ _ _ _ _ c.requires.ready c.loop-merged.invariant }

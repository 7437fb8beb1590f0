use Rattle.cq_rows.proofs.Ready.{ready_after}
use Rattle.cq_rows.proofs.Passing.{Continues-start, Continues-then}
use Rattle.cq_rows.proofs.settle.go_on.Goals as goal

pub loop-turn-init : goal.loop-turn-init
loop-turn-init c = Continues-start _ _ _ c.requires.ready.whole c.requires.ready.current

pub loop-turn-preserved : goal.loop-turn-preserved
loop-turn-preserved c = Continues-then _ _ _ _ _ _ _ c.loop-turn.invariant c.in_ok-retry.ensures

pub retry-requires : goal.retry-requires
retry-requires c = record { ready = ready_after _ _ _ _ _ c.requires.ready c.loop-turn.invariant.settling }

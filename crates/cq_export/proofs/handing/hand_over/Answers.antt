use Rattle.std.proofs.Common.{rules, arith}
use Rattle.cq_export.proofs.Hands.{serves_none, serves_next, serves_moved, serves_stopped}
use Rattle.cq_export.proofs.handing.hand_over.Goals as goal

pub loop-at-init : goal.loop-at-init
loop-at-init g c = (serves_none _ _ _ _, omega arith, search rules)

pub loop-at-preserved-in-Ok : goal.loop-at-preserved-in-Ok
loop-at-preserved-in-Ok g c = (
  serves_next _ _ _ _ _ _ _ _ _ c.loop-at.invariant.0 (search rules)
      c.index_mut-exporter.ensures.value c.in-Ok.ensures,
  omega (arith, c.loop-at.invariant.1),
  c.loop-at.invariant.2,
)

pub loop-at-preserved : goal.loop-at-preserved
loop-at-preserved g c = (
  serves_moved _ _ _ _ _ _ _ _ _ _ _ _ c.loop-at.invariant.0 (search rules)
      c.index_mut-exporter.ensures.value (rw c.in-Err-Failed.field-0-is at c.in-Err-Failed.ensures) c.remove.ensures.value
      c.remove.ensures.items (rw c.unwrap.ensures at c.push.ensures.items),
  (let len = rw c.unwrap.ensures at c.push.ensures.len in
      omega (arith, c.loop-at.invariant.1, len, c.push.ensures.capacity, c.remove.ensures.len)),
  c.loop-at.invariant.2,
)

pub returns-in-Err-Memory : goal.returns-in-Err-Memory
returns-in-Err-Memory g c =
    serves_stopped _ _ _ _ _ _ _ _ _ c.loop-at.invariant.0 (search rules)
    c.index_mut-exporter.ensures.value (rw c.in-Err-Memory.field-0-is at c.in-Err-Memory.ensures)

use Rattle.std.proofs.Common.{◌<◌, ◌+◌, length, sum, sym, arith, rules}
use Rattle.std.proofs.lemmas.Bool.{lt-ltb}
use Rattle.cq_instance.proofs.Pushed.{start_more, start_fits}
use Rattle.cq_instance.proofs.given.is_too_large.Goals as goal

pub loop-entity-preserved : goal.loop-entity-preserved
loop-entity-preserved c =
    let within : c.loop-entity.entity < length c.args.counts.now = search rules in
    omega (arith, c.loop-entity.invariant, c.number_at-count.ensures, start_more c.args.counts.now c.loop-entity.entity within, c.if-count-room.false)

pub returns-then-count-room : goal.returns-then-count-room
returns-then-count-room c =
    let within : c.loop-entity.entity < length c.args.counts.now = search rules in
    let many : 16000000 < sum c.args.counts.now + c.args.nulls = omega (arith, start_fits c.args.counts.now c.loop-entity.entity within, c.loop-entity.invariant, c.number_at-count.ensures, c.if-count-room.true) in
    sym (lt-ltb 16000000 (sum c.args.counts.now + c.args.nulls) many)

use Rattle.std.proofs.Common.{arith, refl, ◌≡◌, ◌<◌, length, get_or}
use Rattle.cq_proof.proofs.Digits.{raised_by, carried_on, carried_all}
use Rattle.cq_proof.proofs.counter.next.Goals as goal

pub returns-then-digits-i-lt18446744073709551615-clause-next : goal.returns-then-digits-i-lt18446744073709551615-clause-next
returns-then-digits-i-lt18446744073709551615-clause-next c _ =
    raised_by c.args.digits.now c.loop-i.digits c.loop-i.i (omega arith) c.loop-i.invariant _ refl c.if-digits-i-lt18446744073709551615.true

pub loop-i-preserved : goal.loop-i-preserved
loop-i-preserved c =
    let within : c.loop-i.i < length c.loop-i.digits = omega arith in
    let least : get_or c.loop-i.digits c.loop-i.i 0 < 18446744073709551616 = c.loop-i.invariant.below c.loop-i.i 0 within in
    let most : get_or c.loop-i.digits c.loop-i.i 0 ≡ 18446744073709551615 = omega (arith, least) in
    carried_on c.args.digits.now c.loop-i.digits c.loop-i.i within c.loop-i.invariant most

pub returns-clause-last : goal.returns-clause-last
returns-clause-last c _ = carried_all c.args.digits.now c.loop-i.digits c.loop-i.i (omega arith) c.loop-i.invariant

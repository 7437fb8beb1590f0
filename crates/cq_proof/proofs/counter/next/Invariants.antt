use Rattle.cq_proof.proofs.Digits.{AreCarried}
use Rattle.cq_proof.proofs.counter.next.Given as goal

abbrev pub invariant-loop-i : goal.invariant-loop-i
invariant-loop-i l = AreCarried l.initial.digits l.digits l.i

use Rattle.cq_proof.proofs.Passing.{ArePassed}
use Rattle.cq_proof.specs.Counting.{behind}
use Rattle.cq_proof.proofs.enumeration.sought_among.Given as goal

abbrev pub invariant-loop-digits : goal.invariant-loop-digits
invariant-loop-digits l = ArePassed l.schema l.presentation l.equation l.count l.digits.items

abbrev pub decreases-loop-digits : goal.decreases-loop-digits
decreases-loop-digits l = behind l.digits.items

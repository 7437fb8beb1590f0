use Rattle.cq_proof.specs.Searching.{NoneIsShorter}
use Rattle.cq_proof.proofs.enumeration.sought_among_all.Given as goal

abbrev pub invariant-loop-count : goal.invariant-loop-count
invariant-loop-count l = NoneIsShorter l.schema l.presentation l.equation l.count

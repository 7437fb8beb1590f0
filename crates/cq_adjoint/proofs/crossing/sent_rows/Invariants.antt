use Rattle.std.proofs.Common.{◌≡◌, ◌+◌, map, take}
use Rattle.std.specs.List.{enumerate_from}
use Rattle.cq_theory.specs.EntTerm.{alone}
use Rattle.cq_adjoint.specs.QueryMoves.{row_sent}
use Rattle.cq_adjoint.proofs.crossing.sent_rows.Given as goal

abbrev pub invariant-loop-number : goal.invariant-loop-number
invariant-loop-number l =
    l.made.items ≡ map (λ v. row_sent l.crossing.moved.now l.crossing.copies.now l.crossing.target.now v.1.1 (alone (l.first + v.0))) (enumerate_from 0 (take l.number l.variables))

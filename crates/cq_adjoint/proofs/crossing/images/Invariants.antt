use Rattle.std.proofs.Common.{◌≡◌, map, take}
use Rattle.std.specs.List.{enumerate_from}
use Rattle.cq_adjoint.specs.QueryMoves.{to_eval_image}
use Rattle.cq_adjoint.proofs.crossing.images.Given as goal

abbrev pub invariant-loop-number : goal.invariant-loop-number
invariant-loop-number l =
    l.images.items ≡ map (to_eval_image l.crossing.query.now l.crossing.moved.now l.crossing.source.now l.crossing.copies.now l.crossing.target.now l.crossing.evaluated.now l.crossing.places.now)
    (enumerate_from 0 (take l.number l.generators))

use Rattle.std.proofs.Common.{◌≡◌, map, take}
use Rattle.std.specs.List.{enumerate_from}
use Rattle.cq_adjoint.specs.QueryMoves.{eval_image}
use Rattle.cq_adjoint.proofs.eval_maps.images.Given as goal

abbrev pub invariant-loop-number : goal.invariant-loop-number
invariant-loop-number l =
    l.images.items ≡ map (eval_image l.evaluating.query.now l.evaluating.moved.now l.evaluating.source.now l.evaluating.target.now l.evaluating.evaluated.now l.evaluating.there.now l.evaluating.from.now l.evaluating.places.now)
    (enumerate_from 0 (take l.number l.generators))

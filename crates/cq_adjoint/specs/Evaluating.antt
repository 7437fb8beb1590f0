-- What a transform between instances of answers is made of.
use Rattle.cq_transform.specs.Transforms.{GoesFrom}
use Rattle.cq_adjoint.specs.declared.eval_maps.Evaluating.{Evaluating}
use Rattle.cq_adjoint.specs.QueryMoves.{AreEvaluated}

-- the transform goes from the source to the target, and the instances are eval of these, with these answers
pub record IsEvaluating (evaluating : Evaluating) : Type 0 where
  pub goes : GoesFrom evaluating.moved.now evaluating.source.now evaluating.target.now
  pub are : AreEvaluated evaluating.query.now evaluating.source.now evaluating.target.now evaluating.evaluated.now
      evaluating.there.now
      evaluating.from.now evaluating.places.now

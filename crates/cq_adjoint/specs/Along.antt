-- What a transform becomes along a mapping or a query, between the instances that it makes.
use Rattle.std.specs.Prelude.{ℕ, List, ◌≡◌}
use Rattle.cq_instance.specs.InstanceData.{InstanceData}
use Rattle.cq_instance.specs.declared.transform.Transform.{Transform}
use Rattle.cq_transform.specs.Transforms.{GoesFrom}
use Rattle.cq_mapping.specs.MappingData.{MappingData as Mapping}
use Rattle.cq_adjoint.specs.Moved.{IsSigmaOf, IsDeltaOf}
use Rattle.cq_adjoint.specs.Moves.{sigma_images, delta_images}
use Rattle.cq_query.specs.QueryData.{QueryData as Query}
use Rattle.cq_adjoint.specs.QueryMoves.{IsCoeval, AreEvaluated, coeval_images, eval_images}

-- h goes from i to j, and s from a to b, which are sigma of these, with the images of h along sigma
pub record IsAlongSigma (F : Mapping) (i j a b : InstanceData) (h s : Transform) : Type 0 where
  pub below : GoesFrom h i j
  pub pushed : IsSigmaOf F i a
  pub pushed_there : IsSigmaOf F j b
  pub above : GoesFrom s a b
  pub images : s.images ≡ sigma_images F h

-- h goes from i to j, and s from a to b, which are delta of these, with the images of h along delta
pub record IsAlongDelta (F : Mapping) (i j a b : InstanceData) (h s : Transform) : Type 0 where
  pub below : GoesFrom h i j
  pub pulled : IsDeltaOf F i a
  pub pulled_there : IsDeltaOf F j b
  pub above : GoesFrom s a b
  pub images : s.images ≡ delta_images F h i j a b

-- h goes from i to j, and s from a to b, which are coeval of these, with the images of h along coeval
pub record IsAlongCoeval (Q : Query) (i j a b : InstanceData) (h s : Transform) : Type 0 where
  pub below : GoesFrom h i j
  pub copied : IsCoeval Q i a
  pub copied_there : IsCoeval Q j b
  pub above : GoesFrom s a b
  pub images : s.images ≡ coeval_images Q h i j

-- h goes from i to j, and s from a to b, which are eval of these with these answers, with the images of h along eval
pub record IsAlongEval (Q : Query) (i j a b : InstanceData) (from to : List (List (List ℕ)))
    (h s : Transform) : Type 0 where
  pub below : GoesFrom h i j
  pub evaluated : AreEvaluated Q i j a b from to
  pub above : GoesFrom s a b
  pub images : s.images ≡ eval_images Q h i j a b from to

-- two transforms send rows and nulls alike
abbrev pub SendAlike : Transform → Transform → Type 0
SendAlike s t = (s.rows ≡ t.rows) × (s.nulls ≡ t.nulls)

-- What a transform into eval is made of.
use Rattle.std.specs.Prelude.{◌≡◌}
use Rattle.cq_query.specs.Coeval.{starts as starts_of, null_start}
use Rattle.cq_transform.specs.Transforms.{GoesFrom}
use Rattle.cq_adjoint.specs.declared.crossing.Crossing.{Crossing}
use Rattle.cq_adjoint.specs.QueryMoves.{AreAcross}

-- the transform goes from coeval of the source to the target, of which eval has these answers, and the starts are those
-- of coeval
pub record IsCrossing (crossing : Crossing) : Type 0 where
  pub goes : GoesFrom crossing.moved.now crossing.copies.now crossing.target.now
  pub across : AreAcross crossing.query.now crossing.source.now crossing.copies.now crossing.target.now
      crossing.evaluated.now crossing.places.now
  pub starts : crossing.starts.now ≡ starts_of crossing.query.now crossing.source.now.tables.sheet.counts
  pub first : crossing.first_null ≡ null_start crossing.query.now crossing.source.now.tables.sheet.counts

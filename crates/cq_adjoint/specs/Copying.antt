-- What a transform between instances that coeval makes is made of.
use Rattle.std.specs.Prelude.{◌≡◌}
use Rattle.cq_query.specs.Coeval.{starts as starts_of, null_start}
use Rattle.cq_transform.specs.Transforms.{GoesFrom}
use Rattle.cq_adjoint.specs.declared.coeval_maps.Copying.{Copying}
use Rattle.cq_adjoint.specs.QueryMoves.{IsCoeval}

-- the transform goes from the source to the target, the instances are coeval of these, and the starts are those in the
-- target's
pub record IsCopying (copying : Copying) : Type 0 where
  pub goes : GoesFrom copying.moved.now copying.source.now copying.target.now
  pub copied : IsCoeval copying.query.now copying.source.now copying.copies.now
  pub copied_there : IsCoeval copying.query.now copying.target.now copying.there.now
  pub starts : copying.starts.now ≡ starts_of copying.query.now copying.target.now.tables.sheet.counts
  pub first : copying.first_null ≡ null_start copying.query.now copying.target.now.tables.sheet.counts

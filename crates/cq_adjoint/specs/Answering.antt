-- What a transform out of coeval is made of.
use Rattle.std.specs.Prelude.{ℕ, List, ◌≡◌, map}
use Rattle.cq_transform.specs.Nulls.{IsInitial}
use Rattle.cq_transform.specs.Transforms.{GoesFrom}
use Rattle.cq_adjoint.specs.declared.answering.Answering.{Answering}
use Rattle.cq_adjoint.specs.QueryMoves.{AreAcross}
use Rattle.cq_instance.specs.Spelling.{AreNullsSpelled, term_among}

-- the answers in the target
abbrev pub answers_in : Answering → List (List (List ℕ))
answers_in answering = map (λ list. map (λ rows. rows.items) list.items) answering.answers.now

-- the transform goes from the source to eval of the target, which has these answers, and rows and nulls of the target
-- have their names
pub record IsAnswering (answering : Answering) : Type 0 where
  pub goes : GoesFrom answering.moved.now answering.source.now answering.evaluated.now
  pub across : AreAcross answering.query.now answering.source.now answering.copies.now answering.target.now
      answering.evaluated.now
      (answers_in answering)
  pub least : IsInitial answering.target.now
  pub spelled : AreNullsSpelled answering.target.now (term_among answering.null_terms.now)

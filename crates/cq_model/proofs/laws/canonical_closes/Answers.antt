use Rattle.cq_model.proofs.CanonicalCloses as canonical
use Rattle.cq_model.proofs.laws.canonical_closes.Goals as goal

pub returns : goal.returns
returns c = record {
  closes = λ S M schema well k deep. canonical.closes S M schema well k deep;
  narrow = λ S M schema well few. canonical.narrow S M schema well few;
  consistent = λ S M schema well satisfies. canonical.consistent S M schema well satisfies;
}

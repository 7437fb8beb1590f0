use Rattle.cq_instance.proofs.CanonicalHolds as model
use Rattle.cq_instance.proofs.CanonicalDerived as derived
use Rattle.cq_instance.proofs.CanonicalNames as names
use Rattle.cq_instance.proofs.laws.canonical_presents.Goals as goal

pub returns : goal.returns
returns c = record {
  initial = derived.initial;
  least = names.least_name;
  presentation = λ S M schema tables few. model.presented S M schema tables.well_formed tables.cells_fit tables.entries_fit few;
}

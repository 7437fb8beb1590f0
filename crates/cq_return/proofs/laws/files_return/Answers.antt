use Rattle.std.proofs.Common.{subst, sym}
use Rattle.cq_theory.specs.Tables.{Initial}
use Rattle.cq_theory.specs.Canonical.{canonical_assignment}
use Rattle.cq_instance.proofs.CanonicalDerived as derived
use Rattle.cq_return.proofs.Answered.{answers, reads}
use Rattle.cq_return.proofs.laws.files_return.Goals as goal

pub returns : goal.returns
returns c = record {
  reads = reads;
  answers = answers;
  presents = λ i path name files is returnable holds.
      subst (λ P. Initial i.schema P i.tables (canonical_assignment i.schema i.tables)) (sym (reads i path name files is returnable holds).1)
      (derived.initial i.schema i.tables returnable.schema is.well_formed is.satisfies);
}

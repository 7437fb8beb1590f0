use Rattle.std.proofs.Common.{subst, sym}
use Rattle.cq_theory.specs.Canonical.{canonical_assignment}
use Rattle.cq_theory.specs.Tables.{Initial}
use Rattle.cq_instance.proofs.CanonicalDerived as derived
use Rattle.cq_return.proofs.LiteralReturned as returned
use Rattle.cq_return.proofs.laws.literal_returns.Goals as goal

pub returns : goal.returns
returns c = record {
  declares = λ i name schema is writable plain plain_schema before. returned.declares i is writable name schema plain plain_schema before;
  presents = λ i name schema is writable d declares.
      subst (λ P. Initial i.schema P i.tables (canonical_assignment i.schema i.tables)) (sym (returned.gives i is writable name schema d declares).1)
      (derived.initial i.schema i.tables writable.schema is.well_formed is.satisfies);
  gives = λ i name schema is writable d declares. returned.gives i is writable name schema d declares;
}

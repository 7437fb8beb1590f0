use Rattle.cq_adjoint.proofs.QueryIdentities.{unit_of_query, counit_of_query}
use Rattle.cq_adjoint.proofs.query_laws.query_units_of_identities.Goals as goal

pub returns : goal.returns
returns c = record {
  unit = λ Q i x b answers query across source middle. unit_of_query Q query i x b answers across source middle;
  counit = λ Q i x answers null_term. counit_of_query Q i x answers null_term;
}

use Rattle.cq_adjoint.proofs.QueriesBack.{one_into, one_out_of}
use Rattle.cq_adjoint.proofs.query_laws.queries_there_and_back.Goals as goal

pub returns : goal.returns
returns c = record {
  into = λ Q i a j d answers h k k' query across source middle goes is is' says says'. one_into Q i a j d answers h k k' query across source middle goes is is' says says';
  out_of = λ Q i a j d answers h h' k query coeval first goes goes' says says'. one_out_of Q i a j d answers h h' k query coeval first goes goes' says says';
}

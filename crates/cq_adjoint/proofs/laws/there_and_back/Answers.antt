use Rattle.cq_adjoint.proofs.ThereAndBack.{one_into, one_out_of}
use Rattle.cq_adjoint.proofs.laws.there_and_back.Goals as goal

pub returns : goal.returns
returns c = record {
  into = λ F i a j d h k k' schema initial goes goes' says says'. one_into F i a j d h k k' schema initial goes goes' says says';
  out_of = λ F i a j d h h' k is pushed goes goes' says says'. one_out_of F i a j d h h' k is pushed goes goes' says says';
}

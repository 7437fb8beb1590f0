use Rattle.cq_move.proofs.Pulled.{row_from-image, value_of-image}
use Rattle.cq_move.proofs.laws.pulled_back_terms.Goals as goal

pub returns : goal.returns
returns c = record {
  paths = λ F M is well path entity target row leads inside. row_from-image F is M well path entity target row leads inside;
  terms = λ F M is well t entity type row typed inside. value_of-image F is M well entity row inside t type typed;
}

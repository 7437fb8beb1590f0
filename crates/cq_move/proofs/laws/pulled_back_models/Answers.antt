use Rattle.cq_move.proofs.Pulled.{well_formed, satisfied}
use Rattle.cq_move.proofs.laws.pulled_back_models.Goals as goal

pub returns : goal.returns
returns c = record {
  well_formed = λ F M is well satisfies. well_formed F is M well satisfies;
  satisfies = λ F M is preserves well satisfies. satisfied F is M well satisfies preserves;
}

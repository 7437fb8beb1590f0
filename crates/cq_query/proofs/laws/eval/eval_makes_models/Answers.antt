use Rattle.cq_query.proofs.Evaluated.{well_formed, satisfied}
use Rattle.cq_query.proofs.laws.eval.eval_makes_models.Goals as goal

pub returns : goal.returns
returns c = record {
  well_formed = λ Q M N query well satisfies eval. well_formed Q query M well satisfies N eval;
  satisfies = λ Q M N query sound well satisfies eval. satisfied Q query M well satisfies N eval sound;
}

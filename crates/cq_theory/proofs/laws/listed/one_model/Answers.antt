use Rattle.cq_theory.proofs.OneModel.{same_models, same_assignments, same_lists_of_names}
use Rattle.cq_theory.proofs.laws.listed.one_model.Goals as goal

pub returns : goal.returns
returns c = record { model = same_models; assignment = same_assignments; names = same_lists_of_names }

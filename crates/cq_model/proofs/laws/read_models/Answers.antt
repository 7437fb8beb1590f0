use Rattle.cq_model.proofs.BuiltListed.{listed, inconsistent}
use Rattle.cq_model.proofs.laws.read_models.Goals as goal

pub returns : goal.returns
returns c = record { listed = listed; inconsistent = inconsistent }

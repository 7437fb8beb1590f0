use Rattle.cq_transform.proofs.BothWays.{one_to_one}
use Rattle.cq_transform.proofs.laws.canonical_is_one_to_one.Goals as goal

pub returns : goal.returns
returns c = λ i j schema presented first canonical_presented same same_presentation second.
    one_to_one i j schema presented first canonical_presented same same_presentation second

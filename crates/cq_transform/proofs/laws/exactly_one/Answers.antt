use Rattle.cq_transform.proofs.ExactlyOne.{some_homomorphism, one_homomorphism}
use Rattle.cq_transform.proofs.laws.exactly_one.Goals as goal

pub returns-clause-some : goal.returns-clause-some
returns-clause-some c = λ S P M N A B schema initial holds. some_homomorphism S P M N A B schema initial holds

pub returns-clause-one : goal.returns-clause-one
returns-clause-one c = λ S P M N A B schema initial holds rows rows' nulls nulls' h a k b. one_homomorphism S P M N A B schema initial holds rows rows' nulls nulls' h a k b

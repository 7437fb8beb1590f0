use Rattle.std.proofs.Common.{ap}
use Rattle.cq_theory.specs.Tables.{Assignment, meaning_of}
use Rattle.cq_push.proofs.TwoWays.{one_way}
use Rattle.cq_push.proofs.laws.ways_agree.Goals as goal

pub returns-clause-generators : goal.returns-clause-generators
returns-clause-generators c = λ to_left to_right start left right f g M A holds. one_way to_left to_right start left right f g M A holds

pub returns-clause-terms : goal.returns-clause-terms
returns-clause-terms c = λ to_left to_right start left right f g M A holds t.
    ap (λ (B : Assignment). meaning_of M B t) (one_way to_left to_right start left right f g M A holds)

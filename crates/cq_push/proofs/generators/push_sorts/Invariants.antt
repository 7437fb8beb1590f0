use Rattle.std.proofs.Common.{◌≡◌, ◌++◌, take, map}
use Rattle.cq_push.proofs.generators.push_sorts.Given as goal

abbrev pub invariant-loop-generator : goal.invariant-loop-generator
invariant-loop-generator l = l.made.items ≡ l.initial.made.items ++ map (λ g. g.1) (take l.generator-index l.generators)

use Rattle.std.proofs.Common.{◌≡◌, map, take}
use Rattle.cq_theory.specs.declared.presentation.Sort.TheVariants.{Entity}
use Rattle.cq_query.proofs.duties.frozen_generators.Given as goal

abbrev pub invariant-loop-var : goal.invariant-loop-var
invariant-loop-var l = l.made.items ≡ map (λ v. (v.0, Entity v.1)) (take l.var-index l.vars)

use Rattle.std.proofs.Common.{◌≡◌, ◌++◌, map, take}
use Rattle.cq_theory.specs.declared.presentation.Sort.TheVariants.{Entity}
use Rattle.cq_query.proofs.sorts.push_row_sorts.Given as goal

abbrev pub invariant-loop-var : goal.invariant-loop-var
invariant-loop-var l = l.made.items ≡ l.initial.made.items ++ map (λ v. Entity v.1) (take l.var-index l.vars)

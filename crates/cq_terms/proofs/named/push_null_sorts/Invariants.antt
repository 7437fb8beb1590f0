use Rattle.std.proofs.Common.{◌≡◌, ◌++◌, map, take}
use Rattle.cq_theory.specs.declared.presentation.Sort.TheVariants.{Plain}
use Rattle.cq_terms.proofs.named.push_null_sorts.Given as goal

abbrev pub invariant-loop-null : goal.invariant-loop-null
invariant-loop-null l = l.made.items ≡ l.initial.made.items ++ map Plain (take l.null-index l.nulls)

use Rattle.std.proofs.Common.{◌≡◌, map, take}
use Rattle.cq_theory.specs.Tables.{count_of}
use Rattle.cq_eval.proofs.answering.variable_counts.Given as goal

abbrev pub invariant-loop-variable : goal.invariant-loop-variable
invariant-loop-variable l = l.counts.items ≡ map (λ v. count_of l.instance.tables v.1) (take l.variable-index l.variables)

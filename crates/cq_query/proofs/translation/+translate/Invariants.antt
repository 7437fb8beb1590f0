use Rattle.std.proofs.Common.{◌≡◌, map, take}
use Rattle.cq_query.specs.Translation.{variable_terms, translated}
use Rattle.cq_query.proofs.translation.+translate.Given as goal

abbrev pub decreases-translate : goal.decreases-translate
decreases-translate l = goal.size-translate l

abbrev pub invariant-loop-arg : goal.invariant-loop-arg
invariant-loop-arg l = l.made.items ≡ map (translated l.query (variable_terms l.query l.entity)) (take l.arg-index l.arg-items)

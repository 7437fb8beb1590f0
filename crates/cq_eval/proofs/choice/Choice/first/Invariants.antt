use Rattle.std.proofs.Common.{◌≡◌, map, take}
use Rattle.cq_instance.specs.declared.standing.Standing.TheVariants.{Row}
use Rattle.cq_eval.proofs.choice.Choice.first.Given as goal

abbrev pub invariant-loop-count : goal.invariant-loop-count
invariant-loop-count l = l.standings.items ≡ map (λ _. Row 0) (take l._count-index l.counts)

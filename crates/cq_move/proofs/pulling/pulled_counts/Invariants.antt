use Rattle.std.proofs.Common.{◌≡◌, map, take}
use Rattle.cq_theory.specs.Tables.{count_of}
use Rattle.cq_move.proofs.pulling.pulled_counts.Given as goal

abbrev pub invariant-loop-entity : goal.invariant-loop-entity
invariant-loop-entity l = l.counts.items ≡ map (count_of l.instance.tables) (take l.entity-index l.mapping.entities)

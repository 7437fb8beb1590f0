use Rattle.std.proofs.Common.{◌≡◌, ◌+◌, map, take, sum}
use Rattle.cq_theory.specs.Tables.{count_of}
use Rattle.cq_move.proofs.pulling.has_many_rows.Given as goal

abbrev pub invariant-loop-entity : goal.invariant-loop-entity
invariant-loop-entity l = l.room + sum (map (count_of l.instance.tables) (take l.entity-index l.mapping.entities)) + l.nulls ≡ 16000000

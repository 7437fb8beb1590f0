use Rattle.std.proofs.Common.{◌≡◌, ◌+◌, map, take, sum, length}
use Rattle.cq_eval.proofs.evaluating.has_many_rows.Given as goal

abbrev pub invariant-loop-found : goal.invariant-loop-found
invariant-loop-found l = l.room + sum (map length (take l.found-index l.answers)) + l.nulls ≡ 16000000

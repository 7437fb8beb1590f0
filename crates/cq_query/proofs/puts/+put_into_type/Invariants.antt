use Rattle.std.proofs.Common.{◌≡◌, map, take}
use Rattle.cq_query.specs.Puts.{put_type}
use Rattle.cq_query.proofs.puts.+put_into_type.Given as goal

abbrev pub decreases-put_into_type : goal.decreases-put_into_type
decreases-put_into_type l = goal.size-put_into_type l

abbrev pub invariant-loop-arg : goal.invariant-loop-arg
invariant-loop-arg l = l.made.items ≡ map (put_type l.terms) (take l.arg-index l.arg-items)

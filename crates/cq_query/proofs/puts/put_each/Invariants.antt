use Rattle.std.proofs.Common.{◌≡◌, map, take}
use Rattle.cq_query.specs.Puts.{put}
use Rattle.cq_query.proofs.puts.put_each.Given as goal

abbrev pub invariant-loop-term : goal.invariant-loop-term
invariant-loop-term l = l.made.items ≡ map (put l.terms) (take l.term-index l.each)

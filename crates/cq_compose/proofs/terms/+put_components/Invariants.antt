use Rattle.std.proofs.Common.{◌≡◌, map, take}
use Rattle.cq_query.specs.Puts.{put_type}
use Rattle.cq_compose.specs.Frame.{terms_of}
use Rattle.cq_compose.proofs.terms.+put_components.Given as goal

abbrev pub decreases-put_components : goal.decreases-put_components
decreases-put_components l = goal.size-put_components l

abbrev pub invariant-loop-arg : goal.invariant-loop-arg
invariant-loop-arg l = l.made.items ≡ map (put_type (terms_of l.frame l.at)) (take l.arg-index l.arg-items)

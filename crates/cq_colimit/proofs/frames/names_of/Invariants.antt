use Rattle.std.proofs.Common.{◌≡◌, take, map}
use Rattle.cq_colimit.proofs.frames.names_of.Given as goal

abbrev pub invariant-loop-name : goal.invariant-loop-name
invariant-loop-name l = l.made.items ≡ map (λ g. g.0) (take l.name-index l.given)

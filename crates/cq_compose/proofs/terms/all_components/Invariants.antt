use Rattle.std.proofs.Common.{◌≡◌, take}
use Rattle.std.specs.List.{flat_map}
use Rattle.cq_compose.specs.Frame.{terms_of}
use Rattle.cq_compose.proofs.terms.all_components.Given as goal

abbrev pub invariant-loop-term : goal.invariant-loop-term
invariant-loop-term l = l.made.items ≡ flat_map (terms_of l.frame) (take l.term-index l.terms)

use Rattle.std.proofs.Common.{◌≡◌, map, take}
use Rattle.std.specs.List.{flat_map}
use Rattle.cq_compose.specs.Frame.{terms_of}
use Rattle.cq_compose.proofs.composite.build_keys.Given as goal

abbrev pub invariant-loop-terms : goal.invariant-loop-terms
invariant-loop-terms l = l.made.items ≡ map (flat_map (terms_of l.frame)) (take l.terms-index l.keys)
